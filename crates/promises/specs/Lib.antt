pub mod Tenants
pub mod Replies
