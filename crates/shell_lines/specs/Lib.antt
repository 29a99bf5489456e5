pub mod Token
pub mod Gives
pub mod Number
pub mod Fields
pub mod Request
pub mod Reading
pub mod RaceLine
pub mod Both
