pub mod Layout
pub mod Words
pub mod Opening
pub mod Changes
