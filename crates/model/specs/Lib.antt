pub mod Model
pub mod Lists
pub mod Repeats
pub mod Suited
pub mod Reached
