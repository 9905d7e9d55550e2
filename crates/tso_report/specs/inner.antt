-- Words of contracts inside the project.
pub mod Arrays
pub mod Counted
pub mod Json
pub mod JsonFrame
pub mod Members
pub mod Objects
pub mod Pieces
pub mod Tally
pub mod ShownNames
