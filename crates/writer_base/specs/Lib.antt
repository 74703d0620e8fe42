-- The part of an encoding before a part of variable length, as the code writes it.
pub mod Heads
