pub mod GoingOut
pub mod Showing
