use Rattle.search_report.proofs.Vocabulary.{◌++◌, List, drop, filter, is_read, Reading, AreReadings}
use Rattle.search_report.proofs.readings.readings.Given as goal

-- with readings of what is left, those so far are the readings of all
abbrev pub invariant-loop-read : goal.invariant-loop-read
invariant-loop-read l =
    (rest : List Reading) → AreReadings l.order (filter is_read (drop l.read-index l.read-items)) rest
    → AreReadings l.order (filter is_read l.read-items) (l.all.items ++ rest)
