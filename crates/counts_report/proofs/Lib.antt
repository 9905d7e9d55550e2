pub mod Lines
pub mod Values
pub mod NoFloats
pub mod NoNumbers
