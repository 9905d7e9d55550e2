-- Words of contracts inside the project.
pub mod Depth
pub mod Laws
pub mod Stopping
pub mod WorkedRuns
pub mod BusRuns
pub mod BusLaws
pub mod WorkedSplitRuns
pub mod Pending
pub mod Ending
