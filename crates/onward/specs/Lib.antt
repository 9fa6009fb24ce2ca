pub use Rattle.sched_laws.specs as sched_laws
