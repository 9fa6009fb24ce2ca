-- The proofs' lemmas on the pool's task deques.
pub mod Common
pub mod TallyLemmas
pub mod RuleLemmas
pub mod SeatLemmas
pub mod JoinLemmas
