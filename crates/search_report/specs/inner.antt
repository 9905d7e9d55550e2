-- Words of contracts inside the project.
pub mod ShownOutcomes
pub mod WrittenOutcomes
pub mod Hidden
pub mod Views
pub mod ShownExecutions
pub mod Contents
pub mod Standing
pub mod LineParts
pub mod LineViews
pub mod ShownViews
