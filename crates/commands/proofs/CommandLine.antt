-- The proofs' lemmas on the words of `othello`'s command line.
pub mod FaultLemmas
