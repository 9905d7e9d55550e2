pub mod LitmusLemmas
pub mod ListLemmas
pub mod Digits
