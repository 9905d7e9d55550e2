use Rattle.trace_report.proofs.CoresTold.{cores-told, stalls-told}
use Rattle.trace_report.proofs.OthersSee.{others-told}
use Rattle.trace_report.proofs.GaveWay.{write-backs-told}
use Rattle.trace_report.proofs.told_runs.steps_are_told.Goals as goal

pub returns : goal.returns
returns c = record { cores = cores-told; stalls = stalls-told; others = others-told; write_backs = write-backs-told }
