pub mod Seen
pub mod Scanned
