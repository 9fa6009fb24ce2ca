mod Common
pub mod Prefixes
pub mod Keeping
pub mod Refused
pub mod Judged
pub mod Staying
pub mod Owners
pub mod Coming
pub mod Noting
