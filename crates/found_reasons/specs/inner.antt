-- Words of contracts inside the crate.
pub mod Answered
pub mod Questions
pub mod Precedence
pub mod Cycles
pub mod Cases
pub mod Steps
