pub mod Streams
pub mod Limits
pub mod inner
