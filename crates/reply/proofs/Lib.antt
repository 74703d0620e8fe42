-- the facts and the answer
pub mod Laws
