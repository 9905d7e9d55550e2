-- Words of contracts inside the project.
pub mod Answers
pub mod CheckLines
pub mod Dividing
pub mod ReadOneWay
pub mod Searched
pub mod Step
pub mod Telling
pub mod Trace
