pub mod Made
pub mod Accept
