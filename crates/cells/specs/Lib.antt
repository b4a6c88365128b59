pub mod Cells
pub mod Decoded
pub mod Definitions
pub mod Relation
