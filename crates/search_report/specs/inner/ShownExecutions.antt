-- An execution as the code shows it: what its reads read from, by its order.
use Rattle.std.specs.Prelude.{ℕ, ◌+◌, ◌≡◌, List, [], ◌∷◌, ◌++◌, map, filter, Option, Some, None, codes}
use Rattle.search_report.specs.Vocabulary.{Candidate, Data, Entry, last_in, line, Litmus, member, Members, no_members, object, string, writes_to}
use Rattle.tso_terms.specs.Axioms.{counting}
use Rattle.relational_model.specs.Events.{IsIn}
use Rattle.search_report.specs.ReasonText.{event_text, source_text, reads_of, coherence_line, values_left}
use Rattle.search_report.specs.ReasonJson.{event_value, with_coherence}
use Rattle.search_report.specs.declared.readings.Reading.{Reading}
use Rattle.search_report.specs.declared.shown.Event.{Event}

-- the last of these, or else this one
abbrev pub last_or : Option Entry → List Entry → Option Entry
last_or e [] = e
last_or e (x ∷ xs) = last_or (Some x) xs

-- an entry with its own value, and so a write
abbrev pub event_of : Entry → Event
event_of e = record { entry = e; value = Some e.value }

abbrev pub event_of_write : Option Entry → Option Event
event_of_write None = None
event_of_write (Some w) = Some (event_of w)

-- in the order the read reads from this write
pub record ReadsIt (order : List Entry) (r : Entry) (w : Option Event) : Type 0 where
  pub front : List Entry
  pub back : List Entry
  pub place : order ≡ front ++ (r ∷ back)
  pub source : w ≡ event_of_write (last_in (counting r front back))

-- each of these is in the order
abbrev pub AreIn : List Entry → List Entry → Type 0
AreIn order [] = Unit {0}
AreIn order (e ∷ es) = IsIn order e × AreIn order es

-- these reads, each with the write that it reads from
abbrev pub AreReadings : List Entry → List Entry → List Reading → Type 0
AreReadings order [] [] = Unit {0}
AreReadings order (r ∷ rs) (x ∷ xs) = (x.read ≡ event_of r) × ReadsIt order r x.write × AreReadings order rs xs
AreReadings order _ _ = ⊥

abbrev pub read_with_source : Candidate → Entry → Reading
read_with_source c r = record { read = event_of r; write = event_of_write (c.source r) }

-- a candidate of which this is shown
pub record IsShown (t : Litmus) (order : List Entry) (xs : List Reading) (vs : List ℕ) (c : Candidate) : Type 0 where
  pub readings : xs ≡ map (read_with_source c) (reads_of t c)
  pub coherence : (loc : ℕ) → c.coherence loc ≡ filter (writes_to loc) order
  pub values : vs ≡ values_left t c

-- `From P0:1 R y=0 initial`
abbrev pub reading_line : Litmus → Reading → List ℕ
reading_line t x = codes "From " ++ (event_text t x.read ++ (codes " " ++ line (source_text t x.write)))

abbrev pub reading_value : Litmus → Reading → Data
reading_value t x =
    object (member (codes "read") (event_value t x.read)
    (member (codes "write") (string (source_text t x.write)) no_members))

-- the writes of the order to each location from this one on
abbrev pub coherence_by : Litmus → List Entry → ℕ → List (List ℕ) → List ℕ
coherence_by t order loc [] = []
coherence_by t order loc (name ∷ names) = coherence_line t name (filter (writes_to loc) order) ++ coherence_by t order (loc + 1) names

abbrev pub coherence_members_by : Litmus → List Entry → ℕ → List (List ℕ) → Members
coherence_members_by t order loc [] = no_members
coherence_members_by t order loc (name ∷ names) =
    with_coherence t name (filter (writes_to loc) order) (coherence_members_by t order (loc + 1) names)
