-- Words of contracts inside the project.
pub mod Streams
