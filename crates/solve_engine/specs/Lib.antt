pub mod Solving
pub mod Asked
pub mod Found
