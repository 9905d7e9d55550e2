-- Where a write stands among the writes of all programs.
use Rattle.std.specs.Prelude.{ℕ, ◌≤◌, ◌+◌, ◌==◌, List, [], ◌∷◌, if◌then◌else◌, slice_index_or}
use Rattle.basic_laws.specs.Types.{Entry}
use Rattle.refutation_laws.specs.Known.{same_event}
use Rattle.reading_tables.specs.declared.expressions.Written.{Written}

-- how many writes come before this one; how many there are, where it isn't one of them
abbrev pub number_among : List Written → Entry → ℕ
number_among [] write = 0
number_among (x ∷ xs) write = if same_event x.write write then 0 else number_among xs write + 1

-- how many of the first writes are of other cores
abbrev pub others_before : List Written → ℕ → ℕ
others_before [] core = 0
others_before (x ∷ xs) core = if x.write.core.0 == core then 0 else others_before xs core + 1

-- for each core, so many of the first writes, or more, are of other cores
abbrev pub AreOthersFirst : List Written → List ℕ → Type 0
AreOthersFirst written counts = (core : ℕ) → slice_index_or counts core 0 ≤ others_before written core
