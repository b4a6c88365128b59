pub mod Decoded
pub mod Registers
pub mod Relation
