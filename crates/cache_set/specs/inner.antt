-- Words of contracts inside the project.
pub mod Cleaning
pub mod Contents
pub mod Copies
pub mod Copy
pub mod Finding
pub mod Supplying
pub mod Tags
pub mod Ways
