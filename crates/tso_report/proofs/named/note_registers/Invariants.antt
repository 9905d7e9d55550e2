use Rattle.tso_report.proofs.Vocabulary.{◌≡◌, ◌-◌, ◌++◌, length, drop, map, filter, is_looked_at, named_register, named_registers}
use Rattle.tso_report.proofs.named.note_registers.Given as goal

abbrev pub invariant-loop-core : goal.invariant-loop-core
invariant-loop-core l =
    l.list.items ++ filter (is_looked_at l.test.condition) (named_registers l.core (length l.test.programs - l.core))
    ≡ l.initial.list.items ++ filter (is_looked_at l.test.condition) (named_registers 0 (length l.test.programs))

abbrev pub invariant-loop-reg : goal.invariant-loop-reg
invariant-loop-reg l =
    l.list.items ++ filter (is_looked_at l.test.condition) (map (named_register l.core) (drop l.reg-index l.reg-items))
    ≡ l.initial.list.items ++ filter (is_looked_at l.test.condition) (map (named_register l.core) l.reg-items)
