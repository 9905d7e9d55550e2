pub mod Vocabulary
pub mod Walking
pub mod Relating
pub mod Stack
