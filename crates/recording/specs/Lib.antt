-- Demand 3 as one claim about recordings of the public calls, its tie to the code, and facts about recordings.
pub mod Recording
pub mod Promise
pub mod Facts
