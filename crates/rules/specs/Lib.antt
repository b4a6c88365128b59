pub mod Judge
pub mod Standing
pub mod Rules
