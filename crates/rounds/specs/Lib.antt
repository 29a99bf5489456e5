pub mod Courses
pub mod Descents
pub mod Legs
pub mod ReadRounds
pub mod WriteRounds
