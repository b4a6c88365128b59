pub mod Terms
pub mod Settings
