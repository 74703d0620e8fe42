-- what is asked of a row
pub mod Look
