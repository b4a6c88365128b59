pub mod Named
pub mod Parts
