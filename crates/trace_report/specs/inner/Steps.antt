-- How many stores were pending before a choice, told from after it: so no copy of a buffer has to be kept.
use Rattle.std.specs.Prelude.{ℕ, ◌+◌, ◌-◌}
use Rattle.basic_laws.specs.Types.{Choice, Step, Drain, Outcome, Committed, Buffered, Asked, Stalled}
use Rattle.tso_terms.specs.declared.choice.Outcome.TheVariants as out

-- of a choice with this outcome that left so many stores pending, how many waited before it
abbrev pub waited_before : Outcome → Choice → ℕ → ℕ
waited_before Buffered choice pending = pending - 1
waited_before Committed (Step core) pending = pending
waited_before Committed (Drain core) pending = pending + 1
waited_before out.Moved choice pending = pending
waited_before Asked choice pending = pending
waited_before (Stalled why) choice pending = pending
