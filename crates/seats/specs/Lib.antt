pub mod Gathered
pub mod Idle
pub mod Replies
