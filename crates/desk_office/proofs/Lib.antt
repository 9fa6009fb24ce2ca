mod Common
pub mod SeatLemmas
pub mod Entries
pub mod TurnLemmas
pub mod Histories
pub mod Answered
pub mod Tenancies
pub mod OneTenant
pub mod Sessions
