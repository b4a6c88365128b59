pub mod Ascii
pub mod Run
pub mod Same
