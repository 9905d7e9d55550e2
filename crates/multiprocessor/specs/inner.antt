-- Words of contracts inside the project.
pub mod OneCore
pub mod Buffers
pub mod Caches
pub mod Cores
pub mod Keeping
pub mod Effects
pub mod Turns
