pub mod Written
pub mod Each
pub mod Optional
