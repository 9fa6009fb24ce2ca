pub mod Choices
pub mod Depths
pub mod Sequence
pub mod Rows
pub mod Lanes
