mod Beginnings
mod Firsts
pub mod Telling
pub mod Spelling
pub mod NoFloats
