pub mod Laws
pub mod Logs
pub mod Rule
pub mod Steps
