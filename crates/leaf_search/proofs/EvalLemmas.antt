-- Lemmas of othello_eval on minimax values, passed on to the crates above, which search.
pub use Rattle.othello_eval.proofs.MinimaxLemmas as MinimaxLemmas
pub use Rattle.othello_eval.proofs.TableLemmas as TableLemmas
pub use Rattle.othello_eval.proofs.TableProps as TableProps
