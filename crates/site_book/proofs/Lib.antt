pub mod ComingLemmas
mod Common
mod NameLemmas
pub mod AmountLemmas
mod GrantLemmas
mod BudgetLemmas
mod Totals
pub mod Keepings
mod Views
mod Isolation
pub mod RunLemmas
mod BookLemmas
mod Rules
