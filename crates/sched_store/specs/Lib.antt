pub mod JobLists
pub mod Parts
pub mod Stored
pub mod Inside
pub mod Reads
pub mod Changes
