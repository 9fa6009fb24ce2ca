pub mod Lookups
pub mod Jobs
pub mod Steps
pub mod FrameSteps
pub mod OpenFrame
pub mod Removing
pub mod TenantSteps
