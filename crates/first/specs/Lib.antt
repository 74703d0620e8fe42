pub mod First
pub mod Spare
