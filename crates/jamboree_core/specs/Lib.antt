pub use Rattle.jamboree.specs as jamboree
pub use Rattle.jamboree_rules.specs as jamboree_rules
pub use Rattle.sched_laws.specs as sched_laws
pub mod Replies
pub mod Searching
pub mod Journals
pub mod Outcomes
pub mod Rows
pub mod NewRuns
pub mod Weights
pub mod Paces
pub mod Needs
pub mod Turns
pub mod Sizes
pub mod Enough
pub mod Sums
