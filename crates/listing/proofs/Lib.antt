pub mod Chaining
pub mod LeafPairs
pub mod Listings
pub mod Making
pub mod Walking
pub mod PairLaws
pub mod Ranges
pub mod Finding
pub mod Showing
mod Words
