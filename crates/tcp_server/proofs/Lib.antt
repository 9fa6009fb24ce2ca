pub mod TapeLemmas
pub mod AheadLemmas
pub mod OnTapes
pub mod Partings
