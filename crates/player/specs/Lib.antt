pub mod Play
pub mod Numbers
pub mod Lines
