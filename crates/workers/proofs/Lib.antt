mod Ascending
pub mod Behind
mod Beginning
mod Doing
mod Going
mod Looked
mod Named
mod Parting
pub mod UnderWay
pub mod Words
