pub mod Routes
pub mod Message
pub mod Part
