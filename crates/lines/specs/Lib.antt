pub mod Text
pub mod Sinks
