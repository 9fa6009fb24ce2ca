mod Common
pub mod EvalLemmas
pub mod WindowLemmas
pub mod RankingLemmas
pub mod ListLemmas
pub mod ClassLemmas
pub mod SerialLemmas
