-- The definitions of the texts of Othello positions.
pub mod Spelling
pub mod Faults
pub mod Readings
pub mod Discs
pub mod Rows
