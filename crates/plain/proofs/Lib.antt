pub mod Marked
pub mod Whole
