pub mod Applies
pub mod Fits
pub mod Links
pub mod Memory
pub mod NamedPages
pub mod Records
pub mod Sizes
pub mod Spellable
