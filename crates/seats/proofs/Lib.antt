pub mod Fitting
pub mod Fresh
pub mod Gathering
pub mod Pushed
pub mod Resting
pub mod Seeing
pub mod Showing
pub mod Yielded
