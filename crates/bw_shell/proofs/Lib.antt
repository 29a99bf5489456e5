pub mod Backward
pub mod Transcripts
pub mod Feeding
pub mod Weaving
pub mod Refusals
pub mod Draws
pub mod Taken
