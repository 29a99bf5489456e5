pub mod Spares
pub mod Taking
pub mod Changes
pub mod Moves
pub mod Bounded
pub mod Outs
pub mod Begun
