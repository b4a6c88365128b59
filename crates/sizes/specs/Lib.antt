pub mod Ready
pub mod Shapes
