mod Common
pub mod Answered
pub mod Isolation
pub mod Refused
pub mod HallLemmas
mod SearchLists
