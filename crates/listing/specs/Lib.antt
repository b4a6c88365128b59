pub mod Listing
pub mod Bounds
