pub mod task_deques
pub mod Announced
pub mod Ends
pub mod Faults
pub mod Orders
pub mod Works
