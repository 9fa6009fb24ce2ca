pub mod Chains
mod Common
pub mod Written
pub mod Answered
pub mod Streamed
pub mod Blocks
pub mod Whole
pub mod ByFunction
pub mod Known
pub mod Talked
pub mod Talks
