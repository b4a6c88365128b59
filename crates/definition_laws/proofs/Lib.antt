pub mod Ranges
pub mod Sensible
