-- Words of contracts inside the project.
pub mod Arranged
pub mod Collected
pub mod Settled
pub mod Coming
pub mod Planned
pub mod Packed
pub mod Picked
