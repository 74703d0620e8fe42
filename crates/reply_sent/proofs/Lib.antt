-- what is sent
pub mod Sends
