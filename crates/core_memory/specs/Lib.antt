pub mod Entries
pub mod Looks
pub mod Replies
pub mod Shared
pub mod Tables
