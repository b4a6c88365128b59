pub mod Pouring
pub mod Words
pub mod Lines
pub mod Loops
