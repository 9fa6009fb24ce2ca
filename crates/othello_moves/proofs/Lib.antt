pub mod BitLemmas
pub mod AllowedLemmas
pub mod FewLemmas
mod Common
pub mod LeadLemmas
pub mod LaneLemmas
pub mod Rules
