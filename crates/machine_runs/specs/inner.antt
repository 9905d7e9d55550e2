-- Words of contracts inside the project.
pub mod Observed
pub mod Runs
pub mod Simulation
