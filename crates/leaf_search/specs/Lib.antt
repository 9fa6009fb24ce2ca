pub use Rattle.othello_eval.specs as othello_eval
pub mod Bounds
pub mod Classes
pub mod Ranking
pub mod Serial
