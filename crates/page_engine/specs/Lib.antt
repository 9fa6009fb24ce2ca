pub use Rattle.leaf_search.specs as leaf_search
pub mod Codes
