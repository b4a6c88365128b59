pub mod Rest
pub mod Readings
pub mod Ends
pub mod Turns
pub mod Derive
pub mod Deeper
pub mod Numbers
pub mod Worked
