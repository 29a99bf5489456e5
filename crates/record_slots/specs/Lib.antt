pub mod Layout
pub mod Parts
pub mod Rules
pub mod Small
pub mod Spelling
pub mod Spells
pub mod Texts
