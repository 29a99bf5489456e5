pub mod Opens
pub mod FreeBits
pub mod Changed
pub mod RowWidths
pub mod RowFits
