pub mod ListedValues
pub mod ReasonFormats
pub mod ShownLines
