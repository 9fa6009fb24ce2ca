pub mod DeskRules
mod Common
pub mod Using
pub mod Longs
pub mod Lists
pub mod Halls
pub mod Entries
mod Rules
