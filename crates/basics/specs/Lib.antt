pub mod Given
pub mod Judged
pub mod Slices
pub mod All
pub mod Limits
