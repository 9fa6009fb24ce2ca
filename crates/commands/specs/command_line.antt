-- The definitions of what the words of `othello`'s command line ask for, and their faults.
pub mod Settings
pub mod CommandLine
pub mod Faults
