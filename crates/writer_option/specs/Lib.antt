-- What must hold of a message that is written.
pub mod Sendable
-- The part of an encoding before a part of variable length, as the code writes it.
pub mod Heads
