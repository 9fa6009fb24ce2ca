mod Common
pub mod NameLemmas
mod WaitLemmas
mod LeadLemmas
mod LongLemmas
pub mod PickLemmas
