pub mod Uses
pub mod Traffic
pub mod Counted
pub mod Laws
pub mod AddingUp
pub mod inner
pub mod Runs
