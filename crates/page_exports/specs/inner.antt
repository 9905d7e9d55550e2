-- Words of contracts inside the project.
pub mod Questions
pub mod Laws
