pub mod Asked
pub mod Looked
pub mod Lists
pub mod Jobs
pub mod Results
pub mod Race
