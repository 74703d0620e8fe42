pub mod Found
pub mod Library
pub mod Room
pub mod Search
pub mod Store
