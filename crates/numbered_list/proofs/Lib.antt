pub mod Places
pub mod Edits
