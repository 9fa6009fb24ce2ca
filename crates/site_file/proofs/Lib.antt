mod Sums
pub mod HomeLemmas
