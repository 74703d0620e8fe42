pub mod Number
pub mod Counts
