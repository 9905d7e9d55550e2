-- Shapes, copies and caches of the examples, by constructors alone.
use Rattle.std.specs.Prelude.{ℕ, List, [], ◌∷◌, Option, Some, None, Bool}
use Rattle.worked_examples.specs.Vocabulary.{Core, E, Geometry, I, M, msi, O, S, State, Table, TagSet, TagSets}
use Rattle.protocol_tables.specs.declared.requests.Request.TheVariants.{GetM}
use Rattle.protocol_tables.specs.declared.requests.Transient.{Transient}
use Rattle.protocol_tables.specs.declared.requests.Transient.TheVariants.{ImD}
use Rattle.cache_set.specs.declared.Line.{Line}
use Rattle.cache_set.specs.declared.Victim.{Victim}
use Rattle.cache_set.specs.Contents.{Contents}
use Rattle.snoop_bus.specs.declared.access.BusRequest.{BusRequest}
use Rattle.snoop_bus.specs.declared.access.Supplier.TheVariants.{Cache}
use Rattle.snoop_bus.specs.declared.holding.Stage.TheVariants.{Write}
use Rattle.snoop_bus.specs.declared.holding.HeldBus.{HeldBus}
use Rattle.cache_set.specs.Lines.{Words}
use Rattle.cache_set.specs.Copies.{Sets}
use Rattle.snoop_bus.specs.Bus.{BusModel, bus_with}
use Rattle.snoop_bus.specs.Accesses.{new_bus}
use Rattle.snoop_bus.specs.Asks.{Awaited, AskedAccess}
use Rattle.worked_examples.specs.LinesInSets.{set_for}
use Rattle.protocol_tables.specs.declared.requests.Request.{Request}
use Rattle.snoop_bus.specs.declared.access.Departure.{Departure}
use Rattle.snoop_bus.specs.declared.access.Supplier.{Supplier}

-- ---- by constructors alone

-- so many sets, room for so many lines in each, and so many words of a line
abbrev pub shape : ℕ → ℕ → ℕ → Geometry
shape sets ways words = record { sets = sets; ways = ways; words = words }

-- a line's four places
abbrev pub words : ℕ → ℕ → ℕ → ℕ → Words
words a b c d = a ∷ b ∷ c ∷ d ∷ []

-- a copy in this state, with these words
abbrev pub copy : State → Words → Line
copy state held = record { state = state; words = held }

-- a set of copies, in the same way
abbrev pub copies_for : ℕ → List (ℕ × Line) → Contents
copies_for ways copies = record { copies = copies; ways = ways }

-- a line that left, with its copy
abbrev pub victim : ℕ → Line → Victim
victim line content = record { line = line; content = content }

-- what an ask awaits: what the line is in meanwhile, the state in which it is to be filled, whose copy was sent to memory
abbrev pub awaits : Transient → State → Option Core → Awaited
awaits transient state flushed = record { transient = transient; state = state; flushed = flushed }

abbrev pub asked : Option Awaited → List TagSets → Option Awaited × List TagSets
asked awaited caches = (awaited, caches)

-- what an ask awaits, and all caches after it
abbrev pub ask_leaves : AskedAccess → Option Awaited × List TagSets
ask_leaves a = (a.awaited, a.caches)

-- ---- where a location lies
--   location       0   1   2   3   4   5   6   7
--   word          10  11  12  13  14  15  16  17
--   of two words   line 0  line 1  line 2  line 3
--   in two sets    set 0   set 1   set 0   set 1
--   in three sets  set 0   set 1   set 2   set 0
--   of four words  line 0          line 1
--   in two sets    set 0           set 1
abbrev pub eight_words : List ℕ
eight_words = 10 ∷ 11 ∷ 12 ∷ 13 ∷ 14 ∷ 15 ∷ 16 ∷ 17 ∷ []

-- two cores, whose caches are empty
abbrev pub eight_locations : Geometry → BusModel
eight_locations g = new_bus msi 2 g eight_words

-- an empty set for three lines, and one with this line alone
abbrev pub none : TagSet
none = set_for 3 []

-- the first five of these words
abbrev pub five_words : List ℕ
five_words = 10 ∷ 11 ∷ 12 ∷ 13 ∷ 14 ∷ []

-- ---- copies with words of their own
-- Lines of two words in two sets for one line each. P0 has line 1, locations 2 and 3, in S; P1 has line 2, locations 4 and 5, in M
-- with words that memory doesn't have.
abbrev pub two_words : Geometry
two_words = shape 2 1 2

abbrev pub held_by_p0 : Sets
held_by_p0 = copies_for 1 [] ∷ copies_for 1 ((1, copy S (words 12 13 0 0)) ∷ []) ∷ []

abbrev pub held_by_p1 : Sets
held_by_p1 = copies_for 1 ((2, copy M (words 54 55 0 0)) ∷ []) ∷ copies_for 1 [] ∷ []

abbrev pub eight_in_memory : List Words
eight_in_memory = words 10 11 0 0 ∷ words 12 13 0 0 ∷ words 14 15 0 0 ∷ words 16 17 0 0 ∷ []

abbrev pub stale : Table → BusModel
stale t = bus_with t two_words 8 (held_by_p0 ∷ held_by_p1 ∷ []) eight_in_memory None

-- memory once P1's copy came there
abbrev pub fresh_in_memory : List Words
fresh_in_memory = words 10 11 0 0 ∷ words 12 13 0 0 ∷ words 54 55 0 0 ∷ words 16 17 0 0 ∷ []

abbrev pub getm_of_p0 : BusRequest
getm_of_p0 = record {
  request = GetM;
  line = 2;
  supplier = Some (Cache (record { 0 = 1 }));
  flushed = None;
  states = None ∷ Some M ∷ None ∷ None ∷ None ∷ None ∷ None ∷ None ∷ [];
}

abbrev pub write_of_p0 : HeldBus
write_of_p0 = record {
  holder = record { core = record { 0 = 0 }; loc = record { 0 = 4 }; stage = Write };
  line = 2;
  transaction = Some (record { transient = ImD; copy = copy M (words 54 55 0 0); request = getm_of_p0 });
}

-- P0's write of location 4 holds the bus: P1's copy is gone, and the bus keeps its words for P0
abbrev pub under_way : BusModel
under_way = bus_with msi two_words 8 (held_by_p0 ∷ (copies_for 1 [] ∷ copies_for 1 [] ∷ []) ∷ []) eight_in_memory (Some write_of_p0)

-- lines 7, 4 and 2 with words of their own
abbrev pub seven : ℕ × Line
seven = (7, copy S (words 17 27 37 47))

abbrev pub four : ℕ × Line
four = (4, copy E (words 14 24 34 44))

abbrev pub two : ℕ × Line
two = (2, copy M (words 12 22 32 42))

-- a column of five states: what it has for M, O, E, S and I
abbrev pub by_state : {A : Type 0} → (State → A) → List A
by_state f = f M ∷ f O ∷ f E ∷ f S ∷ f I ∷ []

-- what went on the bus for an access: the request, its line, who supplied the words, whose copy was sent to memory; and the
-- states that the copies of the first two cores were in, where there are no others
abbrev pub requested : Request → ℕ → Option Supplier → Option Core → Option State → Option State → Option BusRequest
requested request line supplier flushed p q = Some (record {
  request = request;
  line = line;
  supplier = supplier;
  flushed = flushed;
  states = p ∷ q ∷ None ∷ None ∷ None ∷ None ∷ None ∷ None ∷ [];
})

-- a line that left, and whether it was written to memory
abbrev pub departed : ℕ → Bool → Option Departure
departed line written_back = Some (record { line = line; written_back = written_back })
