-- Words of contracts inside the project.
pub mod Bounds
pub mod Runs
