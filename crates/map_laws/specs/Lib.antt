pub mod InOrder
pub mod Fits
pub mod Budgets
pub mod OwnKeys
pub mod Examples
pub mod RealTime
