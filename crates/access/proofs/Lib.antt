pub mod Facts
pub mod Joined
pub mod Fields
pub mod Suited
pub mod Stores
pub mod Loops
pub mod Answers
pub mod Calls
