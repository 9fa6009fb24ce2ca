pub mod desk_rules
pub use Rattle.jamboree_core.specs.jamboree as jamboree
pub use Rattle.jamboree_core.specs as jamboree_core
pub use Rattle.jamboree_core.specs.jamboree_rules as jamboree_rules
pub mod Entries
pub mod Journals
pub mod Uses
pub mod Halls
