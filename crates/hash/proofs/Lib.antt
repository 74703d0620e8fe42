-- for the proofs of callers
pub mod Keyed
