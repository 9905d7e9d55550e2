-- Plain tests: each write writes a number, and no instruction is locked.
use Rattle.std.specs.Prelude.{ℕ, ◌==◌, ◌&&◌, Bool, true, false, not, if◌then◌else◌, List, [], ◌∷◌, filter, Option, Some, None, slice_index}
use Rattle.std.specs.List.{list_all}
use Rattle.tso_terms.specs.Litmus.{Litmus}
use Rattle.tso_terms.specs.ProgramOrder.{same_kind}
use Rattle.basic_laws.specs.Types.{Entry, LR}
use Rattle.refutation_laws.specs.Known.{same_event}
use Rattle.possible_reads.specs.Facts.{Fact}
use Rattle.possible_reads.specs.Possible.{fits_source, is_in_order, may_return}
use Rattle.reading_tables.specs.declared.expressions.Held.{Held}
use Rattle.reading_tables.specs.declared.expressions.Held.TheVariants as held
use Rattle.reading_tables.specs.declared.expressions.Written.{Written}
use Rattle.reading_tables.specs.declared.plain.Choice.{Choice}

abbrev pub number_held : Held → ℕ
number_held (held.Number number) = number
number_held _ = 0

abbrev pub holds_number : Held → Bool
holds_number (held.Number number) = true
holds_number _ = false

abbrev pub writes_number : Written → Bool
writes_number x = holds_number x.value

abbrev pub is_no_load_part : Entry → Bool
is_no_load_part e = not (same_kind e.kind LR)

-- the number that a write writes, if it writes one
abbrev pub number_written : List Written → Entry → ℕ
number_written [] write = 0
number_written (x ∷ xs) write = if same_event x.write write then number_held x.value else number_written xs write

abbrev pub choice_of : List Written → Entry → Choice
choice_of written write = record { write = write; value = number_written written write }

-- the read can read this number from this source
abbrev pub is_possible : Litmus → List Fact → Entry → Option Entry → ℕ → Bool
is_possible t facts read source value = list_all (fits_source read source) facts && is_in_order t read source && may_return facts read value

abbrev pub is_choice : Litmus → List Fact → Entry → Choice → Bool
is_choice t facts read c = (c.write.loc.0 == read.loc.0) && is_possible t facts read (Some c.write) c.value

-- the initial write, if the read can read from it
abbrev pub first_chosen : Litmus → List Fact → Entry → List (Option Entry)
first_chosen t facts read = filter (λ source. is_possible t facts read source (slice_index t.words read.loc.0)) (None ∷ [])
