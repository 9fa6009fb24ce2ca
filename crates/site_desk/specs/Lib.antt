pub mod BookedSeats
pub mod Booked
pub mod Granted
pub mod Seats
pub mod Sharing
pub mod Sites
pub mod Entries
pub mod Stocks
