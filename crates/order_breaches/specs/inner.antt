-- Words of contracts inside the project.
pub mod FirstBreach
pub mod Laid
pub mod Matched
pub mod Passing
pub mod Programs
pub mod Progress
pub mod Slots
pub mod Sources
