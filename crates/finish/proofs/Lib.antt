pub mod Laws
-- for the proofs of callers
pub mod Settles
pub mod Decides
