pub mod Registers
pub mod Loops
pub mod Padded
pub mod Each
