pub mod Offices
pub mod Answers
pub mod Moments
pub mod Rows
