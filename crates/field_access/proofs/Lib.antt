pub mod Tests
pub mod FieldBits
pub mod Below
