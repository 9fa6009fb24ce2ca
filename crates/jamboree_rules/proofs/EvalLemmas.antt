-- Lemmas on minimax values and tables, passed on to the crates above that prove the search.
pub use Rattle.leaf_search.proofs.EvalLemmas.MinimaxLemmas as MinimaxLemmas
pub use Rattle.leaf_search.proofs.EvalLemmas.TableLemmas as TableLemmas
pub use Rattle.leaf_search.proofs.EvalLemmas.TableProps as TableProps
