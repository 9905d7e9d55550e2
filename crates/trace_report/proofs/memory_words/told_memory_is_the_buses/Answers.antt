use Rattle.trace_report.proofs.BusMemory.{told-is-the-buses}
use Rattle.trace_report.proofs.memory_words.told_memory_is_the_buses.Goals as goal

pub returns : goal.returns
returns c = told-is-the-buses
