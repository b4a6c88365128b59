pub mod Showing
pub mod Answering
