pub mod Charted
pub mod Sweeps
