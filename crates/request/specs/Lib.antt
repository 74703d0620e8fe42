-- what the gathered facts mean
pub mod Facts
-- room in the vector
pub mod Room
