pub mod Vocabulary
pub mod Pairing
pub mod Together
