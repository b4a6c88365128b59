pub mod Assigned
pub mod Properties
