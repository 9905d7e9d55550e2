-- Words of contracts inside the project.
pub mod Accesses
pub mod Accessing
pub mod Asks
pub mod Bus
pub mod CacheContents
pub mod Completing
pub mod Held
pub mod Requests
