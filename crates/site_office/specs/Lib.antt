pub mod Tokens
pub mod Lines
pub mod Turns
pub mod Views
pub mod Offices
pub mod Refusing
pub mod Moments
pub mod Sessions
