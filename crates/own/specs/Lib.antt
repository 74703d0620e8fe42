pub mod Settings
pub mod Blank
