-- what a start means
pub mod Start
