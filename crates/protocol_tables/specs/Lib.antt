pub mod Laws
pub mod Tables
pub mod Names
pub mod PrintedTable
pub mod Transients
pub mod inner
