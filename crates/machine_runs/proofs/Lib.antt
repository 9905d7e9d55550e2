pub mod Vocabulary
pub mod SimulationLemmas
pub mod BusLemmas
pub mod DriveLemmas
pub mod Endings
pub mod CountLemmas
