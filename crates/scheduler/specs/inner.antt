-- Words of contracts inside the project.
pub mod Coming
pub mod ItemsRead
pub mod Reading
pub mod TooMany
pub mod Passed
