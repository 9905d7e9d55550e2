-- What is printed of the steps of a trace, and of the machine in it.
pub mod TraceWords
pub mod TraceParts
pub mod TraceLines
pub mod TraceObjects
pub mod MachinesFit
pub mod StepsFit
pub mod TraceNumbers
pub mod TraceRuns
pub mod PrintedTraces
pub mod MachineValues
