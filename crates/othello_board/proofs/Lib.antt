pub mod PositionText
pub mod CellLemmas
mod Common
pub mod PlayLemmas
pub mod ShiftLemmas
pub mod EndLemmas
