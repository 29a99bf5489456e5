pub mod Limbo
pub mod Queue
pub mod Reclamation
pub mod Words
