pub mod Pages
pub mod Places
pub mod Rules
pub mod Shown
