-- what holds of every message that was heard
pub mod Heard
pub mod Taken
