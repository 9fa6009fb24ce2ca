pub use Rattle.hall.specs as hall
pub use Rattle.hall.specs.jamboree as jamboree
pub use Rattle.hall.specs.jamboree_core as jamboree_core
pub mod Traces
pub mod Seats
pub mod Counts
pub mod Parts
pub mod Histories
pub mod Noted
