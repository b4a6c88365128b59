pub mod Access
pub mod Visits
pub mod Overlaps
pub mod Sweeps
pub mod Plots
