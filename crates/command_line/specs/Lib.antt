pub mod Search
pub mod Explanation
pub mod Limits
pub mod Instructions
