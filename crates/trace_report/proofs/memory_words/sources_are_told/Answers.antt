use Rattle.trace_report.proofs.Supplying.{sources-told}
use Rattle.trace_report.proofs.memory_words.sources_are_told.Goals as goal

pub returns : goal.returns
returns c = sources-told
