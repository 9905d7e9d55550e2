-- Words of contracts inside the project.
pub mod Addends
pub mod Bounds
pub mod Numbers
pub mod Orders
pub mod Plain
pub mod Tables
pub mod Told
