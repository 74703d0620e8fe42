pub mod Words
-- how long an ART is, for the proofs of callers too
pub mod Lengths
