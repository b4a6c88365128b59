pub mod Compiled
pub mod Stages
