pub mod Words
pub mod Texts
pub mod Faults
pub mod Questions
pub mod Views
