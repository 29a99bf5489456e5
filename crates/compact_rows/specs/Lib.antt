pub mod Layout
pub mod Seen
pub mod Spelling
pub mod Spells
pub mod Spread
