pub mod FirstForm
pub mod Spread
