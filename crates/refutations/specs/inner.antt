-- Words of contracts inside the crate.
pub mod Facts
pub mod Trees
