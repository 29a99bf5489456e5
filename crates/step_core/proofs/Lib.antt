pub mod Cored
pub mod Lawful
pub mod Linked
pub mod Replaced
pub mod Stopping
pub mod Taking
pub mod Reserving
