pub mod Apart
pub mod Deletes
pub mod IndexPages
pub mod Reading
