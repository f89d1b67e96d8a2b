pub mod Heads
pub mod Counting
pub mod Loaded
pub mod Listing
mod Known
pub mod LengthPlaces
pub mod Lengthy
pub mod LengthListing
