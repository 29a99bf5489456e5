pub mod Learnt
pub mod Knowledge
pub mod Discipline
pub mod Disciplined
pub mod Fitting
pub mod Recalled
pub mod Recollections
pub mod Useful
