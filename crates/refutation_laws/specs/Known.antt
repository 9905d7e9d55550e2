-- What a branch of a refutation knows of a candidate: which write some of its reads read from, and which of two writes to a
-- location comes first. From these answers alone follow its reads-from, coherence and from-reads.
-- (Alglave, Maranget, Tautschnig, "Herding Cats", 2014, section 4: rf, co and fr.)
use Rattle.std.specs.Prelude.{◌==◌, ◌&&◌, Bool, false, List, [], ◌∷◌, map, Option, Some, None}
use Rattle.std.specs.List.{list_any}
use Rattle.tso_terms.specs.Litmus.{Litmus}
use Rattle.tso_terms.specs.Thread.{entry}
use Rattle.tso_terms.specs.ProgramOrder.{writes_to}
use Rattle.tso_terms.specs.ProgramEntries.{is_at}
use Rattle.tso_terms.specs.declared.execution.Entry.{Entry}
use Rattle.relational_model.specs.Candidates.{events_from}
use Rattle.refutation_laws.specs.declared.known.Source.{Source}
use Rattle.refutation_laws.specs.declared.known.Pair.{Pair}

-- ---- events

-- An event is an entry whose value is left open: its core, place, kind and location. It is written with the value 0.
abbrev pub bare : Entry → Entry
bare e = entry e.core.0 e.place e.kind e.loc 0

-- the events of a test: what its reads return makes no difference to them
abbrev pub events_of : Litmus → List Entry
events_of t = map bare (events_from 0 t.programs t.registers [])

abbrev pub same_event : Entry → Entry → Bool
same_event x y = is_at x.core.0 x.place x.kind y && (x.loc.0 == y.loc.0)

abbrev pub is_event : Litmus → Entry → Bool
is_event t x = list_any (same_event x) (events_of t)

-- ---- answers

-- a `Source` is a read with the write that it reads from (none is the initial one), a `Pair` two writes to a location in their order
pub record Known : Type 0 where
  pub sources : List Source
  pub order : List Pair

abbrev pub nothing : Known
nothing = record { sources = []; order = [] }

-- one answer more
abbrev pub with_source : Known → Entry → Option Entry → Known
with_source k r w = record { sources = record { read = r; write = w } ∷ k.sources; order = k.order }

abbrev pub with_pair : Known → Entry → Entry → Known
with_pair k w v = record { sources = k.sources; order = record { first = w; second = v } ∷ k.order }

-- ---- rf, co and fr by these answers

abbrev pub is_write_of : Entry → Option Entry → Bool
is_write_of w None = false
is_write_of w (Some v) = same_event v w

-- rf: it is an answer that r reads from w
abbrev pub reads_from : Known → Entry → Entry → Bool
reads_from k w r = list_any (λ (s : Source). same_event s.read r && is_write_of w s.write) k.sources

-- co: it is an answer that w is before v
abbrev pub comes_before : Known → Entry → Entry → Bool
comes_before k w v = list_any (λ (p : Pair). same_event p.first w && same_event p.second v) k.order

-- v is after this source of r: after the initial write each write to the location is, after a write those that an answer puts there
abbrev pub is_overwritten : Known → Entry → Option Entry → Entry → Bool
is_overwritten k r None v = writes_to r.loc.0 v
is_overwritten k r (Some w) v = comes_before k w v

-- fr = rf^-1; co: v is after what r reads from
abbrev pub from_reads : Known → Entry → Entry → Bool
from_reads k r v = list_any (λ (s : Source). same_event s.read r && is_overwritten k r s.write v) k.sources
