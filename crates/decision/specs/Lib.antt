pub mod Decision
pub mod Blank
