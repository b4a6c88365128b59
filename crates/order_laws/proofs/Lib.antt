pub mod First
pub mod Sorted
pub mod Smallest
