pub mod Blank
pub mod Quote
pub mod Token
pub mod Spelt
pub mod Words
