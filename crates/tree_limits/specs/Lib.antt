pub mod Limits
pub mod Room
pub mod Words
