-- Words of contracts inside the project.
pub mod Numbers
pub mod Reading
