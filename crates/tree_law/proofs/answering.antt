pub mod Answering
pub mod Fitted
pub mod Heads
pub mod Whole
