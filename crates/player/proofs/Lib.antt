pub mod Texts
pub mod Steps
pub mod Numbers
pub mod Rows
pub mod Parts
pub mod Laws
