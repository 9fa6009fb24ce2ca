mod Common
pub mod Answers
pub mod Halls
pub mod Taken
