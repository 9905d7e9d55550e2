-- Words of contracts inside the project.
pub mod Newest
pub mod Stores
