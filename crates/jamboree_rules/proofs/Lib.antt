pub mod PoolRules
mod Common
pub mod EvalLemmas
pub mod Searching
pub mod Kinship
pub mod Forms
pub mod Steps
pub mod Keeping
pub mod ActCases
pub mod LeafLemmas
pub mod Rooted
