pub mod Steps
pub mod Trace
pub mod Run
pub mod Within
