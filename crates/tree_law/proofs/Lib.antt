pub mod WholeTrees
pub mod Words
pub mod answering
pub mod epochs
pub mod links
pub mod runs
pub mod shape
pub mod trace
