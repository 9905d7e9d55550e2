use Rattle.std.proofs.Common.{◌≡◌, ◌-◌, ◌++◌, length, filter}
use Rattle.tso_report.specs.Tally.{named_locations}
use Rattle.tso_report.specs.ShownNames.{is_shown, names_shown}
use Rattle.tso_report.proofs.shown_names.names_shown.Given as goal

abbrev pub invariant-loop-loc : goal.invariant-loop-loc
invariant-loop-loc l =
    l.list.items ++ filter (is_shown l.show l.test) (named_locations l.loc (length l.test.locations - l.loc)) ≡ names_shown l.show l.test
