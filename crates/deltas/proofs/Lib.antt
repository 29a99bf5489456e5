pub mod Examples
pub mod Replaced
