pub mod First
pub mod Entries
pub mod FirstBreach
pub mod AxiomBreaches
pub mod inner
