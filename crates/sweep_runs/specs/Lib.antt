pub mod Counting
pub mod inner
