pub use Rattle.sched_laws.specs as sched_laws
pub mod Seeing
pub mod StepResults
pub mod Keeping
