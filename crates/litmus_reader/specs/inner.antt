-- Words of contracts inside the project.
pub mod Cells
pub mod Conditions
pub mod Propositions
pub mod Initial
pub mod Settings
pub mod Reading
pub mod Rows
pub mod Returned
pub mod Sections
