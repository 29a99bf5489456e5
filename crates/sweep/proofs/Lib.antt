pub mod Stages
pub mod Agreeing
pub mod Moving
pub mod SmallLimbo
pub mod Sound
pub mod Short
pub mod Unlinking
mod Words
