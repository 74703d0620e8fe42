-- how long it is, for the proofs of callers too
pub mod Growth
