pub mod Lines
pub mod Refusal
pub mod Text
pub mod Turns
pub mod Transcript
pub mod Weave
