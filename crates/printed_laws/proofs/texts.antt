-- Texts: digits, what is cut off a text's front, lists, and ends.
pub mod Digits
pub mod Cutting
pub mod Lists
pub mod Endings
