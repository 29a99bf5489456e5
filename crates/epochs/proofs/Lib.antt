pub mod Fronts
pub mod Lists
pub mod Handing
pub mod Leaving
pub mod Queues
pub mod Restaged
