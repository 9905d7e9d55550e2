-- Candidate executions of a test: the events of its threads, which write each read reads from, and in which order the
-- writes to each location reach memory.
-- (Alglave, Maranget, Tautschnig, "Herding Cats", 2014, section 4: events, program order, reads-from rf, coherence co.)
use Rattle.std.specs.Prelude.{ℕ, ◌+◌, ◌≡◌, true, List, [], ◌∷◌, ◌++◌, filter, length, Option, Some, None, slice_index, slice_index_or}
use Rattle.tso_terms.specs.Litmus.{Litmus}
use Rattle.tso_terms.specs.Thread.{entries_of, registers_after}
use Rattle.tso_terms.specs.ProgramOrder.{is_read, writes_to}
use Rattle.basic_laws.specs.Types.{Instr, Entry}
use Rattle.relational_model.specs.Events.{IsIn}

-- The initial writes are no events of a thread. They come first in each coherence order, so they are left unsaid: a read
-- that reads from none of the threads' writes reads the initial word.
pub record Candidate : Type 0 where
  -- the values that the reads of each core return, in program order; they make the threads' events
  pub reads : List (List ℕ)
  -- the write that a read reads from, or none: the initial one
  pub source : Entry → Option Entry
  -- the writes to each location, after the initial one
  pub coherence : ℕ → List Entry

abbrev pub events_from : ℕ → List (List Instr) → List (List ℕ) → List (List ℕ) → List Entry
events_from core [] registers reads = []
events_from core (p ∷ ps) registers reads =
    entries_of core 0 p (slice_index_or registers core []) (slice_index_or reads core [])
    ++ events_from (core + 1) ps registers reads

-- the events of all threads
abbrev pub events : Litmus → Candidate → List Entry
events t c = events_from 0 t.programs t.registers c.reads

-- a read returns the value of the write that it reads from, which is one to its location, else the initial word
abbrev pub Returns : Litmus → Candidate → Entry → Option Entry → Type 0
Returns t c r None = r.value ≡ slice_index t.words r.loc.0
Returns t c r (Some w) = IsIn (events t c) w × (writes_to r.loc.0 w ≡ true) × (r.value ≡ w.value)

pub record IsCandidate (t : Litmus) (c : Candidate) : Type 0 where
  pub reads : (r : Entry) → IsIn (events t c) r → is_read r ≡ true → Returns t c r (c.source r)
  -- each write to a location is in its coherence order, and as many are there as there are: each once, and nothing else
  pub writes : (loc : ℕ) (w : Entry) → IsIn (events t c) w → writes_to loc w ≡ true → IsIn (c.coherence loc) w
  pub count : (loc : ℕ) → length (c.coherence loc) ≡ length (filter (writes_to loc) (events t c))

-- ---- the state that a candidate leaves

-- the value of the last of these writes, else this word
abbrev pub last_word : List Entry → ℕ → ℕ
last_word [] word = word
last_word (w ∷ ws) word = last_word ws w.value

abbrev pub words_left_from : ℕ → List ℕ → Candidate → List ℕ
words_left_from loc [] c = []
words_left_from loc (word ∷ words) c = last_word (c.coherence loc) word ∷ words_left_from (loc + 1) words c

-- the word of each location: of the last write in its coherence order
abbrev pub words_left : Litmus → Candidate → List ℕ
words_left t c = words_left_from 0 t.words c

abbrev pub registers_left_from : ℕ → List (List Instr) → List (List ℕ) → List (List ℕ) → List (List ℕ)
registers_left_from core [] registers reads = []
registers_left_from core (p ∷ ps) registers reads =
    registers_after p (slice_index_or registers core []) (slice_index_or reads core [])
    ∷ registers_left_from (core + 1) ps registers reads

-- the registers of each core
abbrev pub registers_left : Litmus → Candidate → List (List ℕ)
registers_left t c = registers_left_from 0 t.programs t.registers c.reads
