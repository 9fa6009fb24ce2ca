-- The proofs' lemmas on what desks have in common, whatever lies under their lock.
pub mod Asking
pub mod Refused
