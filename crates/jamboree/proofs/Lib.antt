mod Common
pub mod StatusLemmas
pub mod ViewLemmas
pub mod ActLemmas
pub mod SightLemmas
pub mod ReplyLemmas
mod Rules
