mod Common
pub mod Content
pub mod Grown
pub mod Steps
pub mod LawFacts
