pub use Rattle.othello_moves.proofs.AllowedLemmas as othello_moves_DescentLemmas
mod Common
pub mod ValueLemmas
pub mod MinimaxLemmas
pub mod MaskLemmas
pub mod TableLemmas
pub mod TableProps
pub mod Rules
