-- Words of contracts inside the crate.
pub mod Branches
pub mod Readers
pub mod Stack
