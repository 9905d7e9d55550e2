-- Words of contracts inside the project.
pub mod Claims
pub mod EightInstructions
pub mod LinesInSets
pub mod Orders
pub mod SharedBus
pub mod SmallPrograms
pub mod Written
