pub mod Spreads
pub mod Noted
pub mod Numbers
pub mod Told
pub mod UseSums
mod AddingUp
mod SumsAdding
