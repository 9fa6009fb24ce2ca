pub mod Guesses
pub mod Places
pub mod Rows
pub mod Lends
