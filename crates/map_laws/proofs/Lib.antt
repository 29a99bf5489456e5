pub mod Spans
pub mod Ending
pub mod Asking
pub mod Along
pub mod InOrder
pub mod Fitting
pub mod Effects
pub mod OwnKeys
pub mod OneSeat
pub mod ReadBack
pub mod Told
pub mod SpentSteps
pub mod Whole
pub mod RealTime
mod Words
