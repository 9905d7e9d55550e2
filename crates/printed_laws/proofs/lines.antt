-- What is printed of a refutation, line by line.
pub mod ReasonEnds
pub mod ReasonHeads
pub mod RefutingLines
pub mod ReadByHand
