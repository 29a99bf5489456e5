pub mod BackCursors
pub mod BackPages
pub mod BackWalks
pub mod Cursors
pub mod Neighbours
pub mod Pages
pub mod Walks
