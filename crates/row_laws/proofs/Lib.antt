pub mod Cells
pub mod Names
pub mod Paths
pub mod Fields
pub mod Tables
pub mod Faithful
