pub mod All
pub mod Each
