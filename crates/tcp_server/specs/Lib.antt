pub mod tcp_door
pub mod Tapes
pub mod Connections
