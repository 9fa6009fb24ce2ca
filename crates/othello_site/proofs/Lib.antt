pub mod LinkLemmas
pub mod SocketLemmas
