use Rattle.tso_report.proofs.Vocabulary.{◌≡◌, ◌++◌, drop, map, shown_value}
use Rattle.tso_report.proofs.named.values_at.Given as goal

abbrev pub invariant-loop-named : goal.invariant-loop-named
invariant-loop-named l =
    l.values.items ++ map (shown_value l.registers l.memory) (drop l.named-index l.list) ≡ map (shown_value l.registers l.memory) l.list
