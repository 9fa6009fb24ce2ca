pub mod position_text
pub mod Rules
pub mod Words
pub mod Rows
pub mod Runs
