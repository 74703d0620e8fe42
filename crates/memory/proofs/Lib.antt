-- each row of a table, rows of a kind
pub mod Tables
pub mod OfKind
-- demand 3: tables that are alike, one call, lists of calls
pub mod Alike
pub mod Lines
pub mod Step
pub mod Memory
-- facts: good rows, the own number, keys, no wrong state
pub mod Keys
pub mod Kind
pub mod Good
pub mod Own
pub mod Apart
pub mod Sound
pub mod Facts
