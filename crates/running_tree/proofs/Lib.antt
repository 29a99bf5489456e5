pub mod Advancing
mod Agreeing
mod Alone
mod Ascending
pub mod Begun
mod Counting
mod Filled
mod Gathering
pub mod Going
mod Holding
mod Joining
mod Kept
mod LackLaws
pub mod Leaving
mod Listing
mod Logged
mod Meeting
mod OnWords
mod Opened
mod Owning
pub mod Resting
mod Resuming
pub mod Seats
mod Standing
mod Upserting
pub mod Words
mod RealTime
