-- The definitions of what desks have in common, whatever lies under their lock.
pub mod Asked
pub mod Changes
pub mod Waits
