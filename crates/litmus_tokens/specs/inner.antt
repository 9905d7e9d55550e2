-- Words of contracts inside the project.
pub mod Gap
pub mod Mapped
pub mod Numerals
pub mod Pieces
pub mod SymbolSteps
pub mod Terms
pub mod Arguments
pub mod Forms
pub mod Returned
