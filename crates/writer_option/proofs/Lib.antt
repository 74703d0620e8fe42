-- how long an RREQ or RREP is, for the proofs of callers too
pub mod Lengths
