pub mod Errands
pub mod ShortReplies
pub mod Hands
