pub mod Vocabulary
pub mod AlongLemmas
