-- how long a message is, for the proofs of callers too
pub mod Lengths
