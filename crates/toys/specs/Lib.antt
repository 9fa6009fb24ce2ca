pub mod Toys
pub mod ToyLaws
pub mod FanRows
pub mod ChainRows
pub mod SmallStates
pub mod GoingRows
