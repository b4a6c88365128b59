pub mod Components
pub mod Fields
