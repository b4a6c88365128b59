pub mod Rows
pub mod Lawful
pub mod Reading
