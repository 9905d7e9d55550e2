pub mod StepSums
