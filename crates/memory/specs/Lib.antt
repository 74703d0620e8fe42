-- Demand 3 as one claim about lists of calls, and facts about such lists.
pub mod Claim
pub mod Facts
