mod ClaimTexts
pub mod ReasonTexts
pub mod ReasonData
pub mod ToldLines
pub mod LeftValues
