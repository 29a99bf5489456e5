pub mod Actors
pub mod Cores
pub mod Turns
