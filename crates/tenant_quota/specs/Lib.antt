pub mod Reserves
pub mod Accounts
pub mod Reservations
pub mod Refusals
pub mod Keeping
pub mod Rows
