-- Words of contracts inside the project.
pub mod Left
pub mod Told
pub mod Steps
pub mod ToldSteps
pub mod Pieces
pub mod Looked
pub mod Limited
pub mod Following
pub mod Observing
pub mod BusMemory
