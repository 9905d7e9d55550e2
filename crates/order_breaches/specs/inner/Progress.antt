-- How far the entries of each core have come: one more than the greatest rank among them. An entry of a smaller rank comes
-- too late.
use Rattle.std.specs.Prelude.{ℕ, ◌+◌, Bool, nat_lt, if◌then◌else◌, List, max, slice_index, slice_set}
use Rattle.tso_terms.specs.ProgramOrder.{is_load, is_store, is_write}
use Rattle.basic_laws.specs.Ranks.{rank}
use Rattle.tso_terms.specs.declared.execution.Entry.{Entry}

-- once this entry has come
abbrev pub reached : List ℕ → Entry → List ℕ
reached marks x = slice_set marks x.core.0 (max (slice_index marks x.core.0) (rank x + 1))

-- the same, plain loads aside
abbrev pub reached_but_for_loads : List ℕ → Entry → List ℕ
reached_but_for_loads marks x = if is_load x then marks else reached marks x

-- the words once this entry has come
abbrev pub words_with : List ℕ → Entry → List ℕ
words_with words x = if is_write x then slice_set words x.loc.0 x.value else words

-- an entry that its core is past; loads may pass a plain store
abbrev pub is_late : List ℕ → List ℕ → Entry → Bool
is_late all others x = nat_lt (rank x + 1) (if is_store x then slice_index others x.core.0 else slice_index all x.core.0)
