pub mod Layout
pub mod Fitting
