pub mod Any
pub mod Plain
