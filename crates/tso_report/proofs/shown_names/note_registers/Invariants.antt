use Rattle.std.proofs.Common.{◌≡◌, ◌-◌, ◌++◌, length, drop, map, filter}
use Rattle.tso_report.specs.Tally.{named_register, named_registers}
use Rattle.tso_report.specs.ShownNames.{is_shown}
use Rattle.tso_report.proofs.shown_names.note_registers.Given as goal

abbrev pub invariant-loop-core : goal.invariant-loop-core
invariant-loop-core l =
    l.list.items ++ filter (is_shown l.show l.test) (named_registers l.core (length l.test.programs - l.core))
    ≡ l.initial.list.items ++ filter (is_shown l.show l.test) (named_registers 0 (length l.test.programs))

abbrev pub invariant-loop-reg : goal.invariant-loop-reg
invariant-loop-reg l =
    l.list.items ++ filter (is_shown l.show l.test) (map (named_register l.core) (drop l.reg-index l.reg-items))
    ≡ l.initial.list.items ++ filter (is_shown l.show l.test) (map (named_register l.core) l.reg-items)
