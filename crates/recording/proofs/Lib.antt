-- real calls as those of the claim about the rules
pub mod Real
-- demand 3
pub mod Memory
-- the tie to the code
pub mod Promises
-- facts
pub mod Facts
