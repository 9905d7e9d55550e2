-- What the programs make for given read values: first for zeros, which shows which entries there must be, then for the
-- order's own.
use Rattle.std.specs.Prelude.{ℕ, ◌+◌, List, [], ◌∷◌, ◌++◌, Option, None, if◌then◌else◌, slice_index_or, take, drop}
use Rattle.std.specs.Option.{unwrap_or}
use Rattle.tso_terms.specs.Thread.{entries_of, reads_in}
use Rattle.tso_terms.specs.ProgramOrder.{is_read}
use Rattle.basic_laws.specs.Types.{Instr, Entry}

-- how many values all programs read
abbrev pub reads_of_all : List (List Instr) → ℕ
reads_of_all [] = 0
reads_of_all (p ∷ ps) = reads_in p + reads_of_all ps

-- the entries of all programs, core by core, where their reads return these values in turn
abbrev pub made_reading : ℕ → List (List Instr) → List (List ℕ) → List ℕ → List Entry
made_reading core [] registers reads = []
made_reading core (p ∷ ps) registers reads =
    entries_of core 0 p (slice_index_or registers core []) (take (reads_in p) reads)
    ++ made_reading (core + 1) ps registers (drop (reads_in p) reads)

-- what a table keeps at a place
abbrev pub kept_in : {X : Type 0} → List (Option X) → ℕ → Option X
kept_in table at = slice_index_or table at None

-- the values with which the reads among these entries came, 0 for one that didn't
abbrev pub reads_that_came : ℕ → List (Option ℕ) → List Entry → List ℕ
reads_that_came i came [] = []
reads_that_came i came (e ∷ es) =
    if is_read e then unwrap_or (kept_in came i) 0 ∷ reads_that_came (i + 1) came es else reads_that_came (i + 1) came es
