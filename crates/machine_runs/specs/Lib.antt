pub mod Runs
pub mod Simulation
pub mod inner
