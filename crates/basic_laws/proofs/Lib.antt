pub mod Ranks
pub mod Basics
pub mod Lists
pub mod WithPending
pub mod Cores
