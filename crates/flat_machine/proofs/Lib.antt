pub mod Vocabulary
pub mod Starting
pub mod Choosing
pub mod Onward
