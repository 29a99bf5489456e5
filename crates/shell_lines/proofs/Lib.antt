pub mod Tokens
pub mod Splits
pub mod Requested
pub mod Numbers
pub mod RaceLines
