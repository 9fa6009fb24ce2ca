pub mod Tenants
pub mod StoreLemmas
pub mod Isolation
