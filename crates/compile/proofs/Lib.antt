pub mod Counts
pub mod Stages
pub mod Room
