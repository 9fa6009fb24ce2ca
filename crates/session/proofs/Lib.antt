mod Common
pub mod PlaceLemmas
pub mod Served
pub mod TrueCalls
pub mod DoneLemmas
