-- Words of contracts of a search for refutations.
pub mod FullCases
pub mod Orders
