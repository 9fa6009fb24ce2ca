pub mod pool_rules
pub use Rattle.sched_rules.specs as sched_rules
pub use Rattle.leaf_search.specs.othello_eval as othello_eval
pub use Rattle.leaf_search.specs as leaf_search
pub mod Frames
pub mod Leaves
pub mod Places
pub mod Entries
pub mod Acts
pub mod Fits
pub mod Sound
pub mod Procedure
pub mod Rows
