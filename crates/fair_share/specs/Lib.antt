pub use Rattle.hall.specs as hall
pub mod Accounts
pub mod Lines
pub mod Waits
pub mod Shares
pub mod Rows
pub mod Picks
