pub mod Locked
pub mod Searched
pub mod inner
