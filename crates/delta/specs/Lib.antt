pub mod Delta
