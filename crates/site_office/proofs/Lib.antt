mod Common
mod TokenLemmas
mod HandlerLemmas
pub mod SeatLemmas
mod BareLines
mod LineLemmas
mod SessionLemmas
mod TurnLemmas
