pub mod Shapes
pub mod Fitted
pub mod Spends
pub mod Newest
pub mod Ended
pub mod Onward
