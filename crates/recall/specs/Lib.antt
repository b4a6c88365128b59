pub mod Encoded
pub mod Shelves
pub mod Kept
