pub mod Reading
pub mod Words
pub mod Tree
pub mod Value
pub mod Grammar
pub mod Grouping
pub mod Faults
