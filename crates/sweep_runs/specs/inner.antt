-- Words of contracts inside the project.
pub mod Counting
pub mod Stalling
