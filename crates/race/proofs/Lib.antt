pub mod Listing
pub mod Grouping
pub mod Looking
pub mod Taking
