-- The definitions of what a pool's worker does next.
pub mod Counts
pub mod Turns
pub mod Rows
pub mod Readied
