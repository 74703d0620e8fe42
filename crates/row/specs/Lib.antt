-- what a record means
pub mod Meaning
-- the records that are written
pub mod Record
-- the rows that have given fields
pub mod Fields
-- what becomes of a table
pub mod Change
