pub mod Logs
pub mod Seen
pub mod Turning
pub mod Roster
