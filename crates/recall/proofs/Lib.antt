pub mod Encoding
pub mod Keeping
pub mod Kept
