-- JSON values, and what is told by their texts.
pub mod JsonTexts
pub mod JsonReading
pub mod JsonKeys
pub mod JsonMemory
