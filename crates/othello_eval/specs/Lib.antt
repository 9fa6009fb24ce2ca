pub use Rattle.othello_moves.specs as othello_moves
pub mod Values
pub mod Minimax
pub mod Tables
pub mod Rows
pub mod Masks
