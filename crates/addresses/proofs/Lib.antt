-- how long addresses are
pub mod Long
