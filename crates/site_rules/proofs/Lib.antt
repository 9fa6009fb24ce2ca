pub mod FieldLemmas
pub mod HeaderLemmas
pub mod ReloadLemmas
pub mod ConnectionLemmas
pub mod Rules
