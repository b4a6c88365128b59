pub mod Found
pub mod Laws
pub mod Finding
pub mod Names
pub mod Growing
