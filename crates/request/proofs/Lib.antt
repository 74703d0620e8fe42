pub mod Rows
pub mod Onward
