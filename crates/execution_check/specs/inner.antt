-- Words of contracts inside the crate.
pub mod Orders
