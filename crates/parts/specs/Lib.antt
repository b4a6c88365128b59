pub mod Reading
pub mod Words
pub mod Parts
pub mod Ahead
