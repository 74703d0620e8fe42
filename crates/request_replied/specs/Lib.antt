-- what is said of our reply
pub mod Replied
