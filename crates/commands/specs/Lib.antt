pub mod command_line
pub mod Answering
pub mod Running
