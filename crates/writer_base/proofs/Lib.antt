pub mod Words
-- how long the base and the Configuration are, for the proofs of callers too
pub mod Lengths
