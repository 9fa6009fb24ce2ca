mod Common
mod SeatLemmas
mod HallSteps
mod Keepings
pub mod Lists
pub mod Comings
mod Tasks
pub mod Granting
pub mod Holding
mod RowLemmas
pub mod Stocks
