-- The proofs' lemmas on the texts of Othello positions.
pub mod Common
pub mod WrittenText
pub mod Readings
pub mod ReadingLemmas
