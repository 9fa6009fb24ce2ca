pub use Rattle.cactus_stack.specs as cactus_stack
pub mod Totals
pub mod Refusals
pub mod Functions
pub mod Trees
pub mod Lone
pub mod Laws
pub mod Runs
pub mod Cores
pub mod Headline
pub mod Views
pub mod Changes
