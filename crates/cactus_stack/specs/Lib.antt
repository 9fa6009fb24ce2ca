pub mod Nodes
pub mod Chains
pub mod Places
