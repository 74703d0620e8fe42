-- the octets of addresses, for the proofs of callers too
pub mod Addresses
-- parts that are written one after the other, for the proofs of callers too
pub mod Parts
