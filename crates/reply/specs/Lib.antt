-- what the gathered facts mean
pub mod Facts
