mod Common
pub mod Places
pub mod Edits
pub mod Standing
