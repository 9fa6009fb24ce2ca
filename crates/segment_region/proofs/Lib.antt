mod Common
pub mod Lists
pub mod Entries
pub mod Whole
pub mod Counts
pub mod Sharing
pub mod Threads
pub mod Memory
pub mod Owners
