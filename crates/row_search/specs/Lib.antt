pub mod Begins
pub mod Items
pub mod Changes
pub mod OneKey
pub mod Placed
pub mod Reading
pub mod Rows
pub mod TextsOf
