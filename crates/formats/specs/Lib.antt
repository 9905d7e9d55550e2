pub mod Formats
pub mod Beginnings
pub mod JsonData
pub mod Laws
