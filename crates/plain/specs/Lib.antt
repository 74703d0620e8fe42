-- The rules of paper 01, in its order.
-- Words used throughout: lists, addresses.
pub mod Lists
pub mod Address
-- "What a node is given", "Answer numbers"
pub mod Given
pub mod Table
pub mod Octets
pub mod Rank
pub mod Answers
pub mod Request
pub mod Reply
pub mod Plain
pub mod Tally
pub mod Marked
pub mod Whole
-- what is read past the end of a lent slice
pub mod Blank
