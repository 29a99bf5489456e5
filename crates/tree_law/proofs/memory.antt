pub mod Children
pub mod Neighbours
pub mod Pages
pub mod Unheld
