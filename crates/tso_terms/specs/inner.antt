-- Words of contracts inside the project.
pub mod ConditionCode
pub mod Watched
pub mod Decimals
