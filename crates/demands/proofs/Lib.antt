pub mod Rows
pub mod Accepted
pub mod Reached
pub mod Classroom
pub mod Spanning
