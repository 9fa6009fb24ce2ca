pub use Rattle.sched_core.proofs.Stepping as sched_core_Stepping
pub use Rattle.sched_laws.proofs.Consequences as sched_laws_Consequences
pub use Rattle.sched_laws.proofs.Parts as sched_laws_Parts
pub use Rattle.sched_laws.proofs.Shaped as sched_laws_Shaped
mod Common
pub mod Replying
pub mod Possible
pub mod Serving
pub mod JournalLemmas
pub mod Moves
pub mod Weights
pub mod Answering
pub mod Needs
pub mod SearchTurns
pub mod Counts
pub mod Rooms
pub mod NeverSpent
pub mod EnoughBounds
pub mod LiveSums
pub mod SeveralJobs
pub mod OwnJournals
