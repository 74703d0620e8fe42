pub mod Filter
pub mod Words
