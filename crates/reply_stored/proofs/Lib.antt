-- what is stored
pub mod Outcome
