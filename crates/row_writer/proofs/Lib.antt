pub mod Cells
pub mod Runs
pub mod Paths
pub mod Tables
