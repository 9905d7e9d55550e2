-- Words of contracts inside the project.
pub mod Looking
pub mod Keeping
pub mod Effects
pub mod OneChoice
pub mod Split
pub mod Machine
pub mod Running
pub mod Calls
