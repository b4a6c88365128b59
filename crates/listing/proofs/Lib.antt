pub mod Lines
pub mod Loops
pub mod Bounds
pub mod Answers
