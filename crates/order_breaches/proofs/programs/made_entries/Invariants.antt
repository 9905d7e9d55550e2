use Rattle.order_breaches.proofs.Vocabulary.{◌≡◌, ◌≤◌, ◌++◌, drop, length, made_reading, reads_of_all}
use Rattle.order_breaches.proofs.programs.made_entries.Given as goal

-- the entries so far and those of the cores that are left make all of them
abbrev pub invariant-loop-number : goal.invariant-loop-number
invariant-loop-number l = record {
  entries : made_reading 0 l.test.programs l.test.registers l.reads
      ≡ l.entries.items ++ made_reading l.number (drop l.number l.test.programs) l.test.registers l.left;
  enough : reads_of_all (drop l.number l.test.programs) ≤ length l.left;
}
