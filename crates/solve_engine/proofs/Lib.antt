mod Common
pub mod RefusalLemmas
pub mod Staying
pub mod Asking
pub mod Working
