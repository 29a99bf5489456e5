pub mod Begun
pub mod Jobs
pub mod Worked
pub mod Working
pub mod Works
