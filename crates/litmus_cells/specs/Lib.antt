pub mod inner
pub mod Cells
