pub mod Running
pub mod Views
pub mod Steps
pub mod Closing
pub mod Longest
pub mod Moments
pub mod Growing
pub mod Examples
