pub mod Announced
pub mod Kept
pub mod Sweeps
pub mod Moves
pub mod Bounded
pub mod Short
pub mod Examples
pub mod Taken
