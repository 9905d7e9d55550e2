pub mod Counting
pub mod Growing
pub mod Keeping
