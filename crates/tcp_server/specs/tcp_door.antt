-- The definitions of where a TCP server takes connections.
pub mod Accepts
