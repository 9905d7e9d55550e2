-- Words of contracts inside the project.
pub mod Noted
pub mod Waiting
