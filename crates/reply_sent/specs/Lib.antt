-- what goes on
pub mod Goes
