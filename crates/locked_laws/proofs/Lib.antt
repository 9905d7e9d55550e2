pub mod Turns
pub mod Chain
pub mod Sums
pub mod Worked
