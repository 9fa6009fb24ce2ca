-- The proofs' lemmas on what a pool's worker does next.
pub mod Common
pub mod ReadyFrames
pub mod ReadiedLemmas
pub mod TaskFrames
