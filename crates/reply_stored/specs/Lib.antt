-- the route that it makes
pub mod Made
