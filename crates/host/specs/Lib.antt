pub mod Host
pub mod Runs
