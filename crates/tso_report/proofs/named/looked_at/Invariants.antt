use Rattle.tso_report.proofs.Vocabulary.{◌≡◌, ◌-◌, ◌++◌, length, filter, is_looked_at, named_locations, looked_at}
use Rattle.tso_report.proofs.named.looked_at.Given as goal

abbrev pub invariant-loop-loc : goal.invariant-loop-loc
invariant-loop-loc l =
    l.list.items ++ filter (is_looked_at l.test.condition) (named_locations l.loc (length l.test.locations - l.loc)) ≡ looked_at l.test
