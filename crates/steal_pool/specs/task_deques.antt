-- The definitions of the pool's task deques: what their seats know, and how they are dealt.
pub mod Tallies
pub mod Seats
pub mod Deals
pub mod Rows
