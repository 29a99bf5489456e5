pub mod Films
pub mod Logs
pub mod Maps
pub mod Pages
pub mod Places
