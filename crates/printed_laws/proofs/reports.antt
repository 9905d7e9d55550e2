-- What is printed of runs and sweeps.
pub mod Unfinished
pub mod Heads
pub mod Lines
pub mod Counted
pub mod Reports
pub mod Sweeps
pub mod JsonNumbers
pub mod JsonReports
pub mod PrintedRuns
pub mod PrintedMachines
