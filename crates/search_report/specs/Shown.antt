-- What is shown of a branch of a refutation: events with the values that its facts tell, the facts, and why a node without branches closes it.
use Rattle.std.specs.Prelude.{ℕ, ◌+◌, Bool, true, false, if◌then◌else◌, Option, Some, None, List, [], ◌∷◌, ◌++◌, map, filter, codes}
use Rattle.std.specs.Option.{option_map}
use Rattle.tso_terms.specs.ProgramOrder.{is_read, is_write}
use Rattle.std.specs.List.{list_any}
use Rattle.search_report.specs.Vocabulary.{AndClaim, Claim, Entry, Litmus, LocClaim, Model, Named, NotClaim, OrClaim, RegClaim, Relation, TruthClaim}
use Rattle.possible_reads.specs.Expressions.{register_left}
use Rattle.possible_reads.specs.Facts as given
use Rattle.possible_reads.specs.Facts.{Fact}
use Rattle.possible_reads.specs.Possible.{Values, last_words, told_value, values_of, values_read, values_written}
use Rattle.refutation_laws.specs.Edges.{on_location, global_in}
use Rattle.lemma_refutations.specs.Edges.{Knowledge}
use Rattle.lemma_refutations.specs.Refutations as refutations
use Rattle.lemma_refutations.specs.Refutations.{Node, is_impossible}
use Rattle.lemma_refutations.specs.Shown.{first_that_relates}
use Rattle.tso_report.specs.Tally.{named_location, named_register}
use Rattle.tso_report.specs.declared.named.Named.TheVariants.{Register, Location}
use Rattle.search_report.specs.declared.shown.Event.{Event}
use Rattle.search_report.specs.declared.shown.Edge.{Edge}
use Rattle.search_report.specs.ClaimText.{holds_text}
use Rattle.search_report.specs.Places.{Place, is_same_place}

-- ---- events

-- the one value, where there is no other
abbrev pub only_one : Values → Option ℕ
only_one (Some (v ∷ [])) = Some v
only_one _ = None

-- these, or else those
abbrev pub or_else : Values → Values → Values
or_else None others = others
or_else values others = values

abbrev pub value_returned : Litmus → Knowledge → Entry → Option ℕ
value_returned t k r = only_one (or_else (told_value k.facts r) (values_read k.readings r))

-- what a read returns, and what a write writes, where the facts tell it
abbrev pub value_shown : Litmus → Knowledge → Entry → Option ℕ
value_shown t k e = if is_read e then value_returned t k e else if is_write e then only_one (values_written t k.readings e) else None

abbrev pub event_at : Litmus → Knowledge → Entry → Event
event_at t k e = record { entry = e; value = value_shown t k e }

abbrev pub edge_at : Litmus → Knowledge → List Relation → Entry → Entry → Edge
edge_at t k relations x y = record { source = event_at t k x; relation = first_that_relates t k relations x y; target = event_at t k y }

-- from x to the next event, and so on, and from the last one to the first
abbrev pub edges_back : Litmus → Knowledge → List Relation → Entry → Entry → List Entry → List Edge
edges_back t k relations first x [] = edge_at t k relations x first ∷ []
edges_back t k relations first x (y ∷ ys) = edge_at t k relations x y ∷ edges_back t k relations first y ys

abbrev pub edges_of : Litmus → Knowledge → List Relation → List Entry → List Edge
edges_of t k relations [] = []
edges_of t k relations (x ∷ xs) = edges_back t k relations x x xs

-- ---- facts

-- a fact, with its events as they are shown
pub data ShownFact : Type 0 where
  From : (read : Event) → (write : Option Event) → (truth : Bool) → ShownFact
  Before : (first second : Event) → ShownFact
  Last : (write : Event) → (truth : Bool) → ShownFact
  Returns : (read : Event) → (value : ℕ) → (truth : Bool) → ShownFact
  -- what this text says is so at the end
  Holds : (text : List ℕ) → ShownFact

abbrev pub shown_at : Litmus → Knowledge → Fact → ShownFact
shown_at t k (given.From r w truth) = From (event_at t k r) (option_map (event_at t k) w) truth
shown_at t k (given.Before w v) = Before (event_at t k w) (event_at t k v)
shown_at t k (given.Last w truth) = Last (event_at t k w) truth
shown_at t k (given.Returns r value truth) = Returns (record { entry = r; value = None }) value truth
shown_at t k (given.Holds claim truth) = Holds (holds_text t claim truth)

-- what a register holds at the end: the fact that it gives, of the read that it holds, comes next
abbrev pub is_said_next : Fact → List Fact → Bool
is_said_next (given.Holds (RegClaim core reg n) truth) (given.Returns r value b ∷ facts) = true
is_said_next _ _ = false

abbrev pub said_once : List Fact → List Fact
said_once [] = []
said_once (f ∷ facts) = if is_said_next f facts then said_once facts else f ∷ said_once facts

-- facts that the claim gives, or that answer a question
abbrev pub shown_facts : Litmus → Knowledge → List Fact → List ShownFact
shown_facts t k facts = map (shown_at t k) (said_once facts)

-- ---- what is false

-- these, and this one, each once
abbrev pub with_named : Named → List Named → List Named
with_named named names = if list_any (is_same_place named) names then names else names ++ (named ∷ [])

-- these, and the registers and locations that a proposition names
abbrev pub with_names_of : Claim → List Named → List Named
with_names_of (TruthClaim truth) names = names
with_names_of (RegClaim core reg value) names = with_named (named_register core reg) names
with_names_of (LocClaim loc value) names = with_named (named_location loc) names
with_names_of (NotClaim inner) names = with_names_of inner names
with_names_of (AndClaim left right) names = with_names_of right (with_names_of left names)
with_names_of (OrClaim left right) names = with_names_of right (with_names_of left names)

-- it speaks of events, not of the final state
abbrev pub is_on_events : Fact → Bool
is_on_events (given.Holds claim truth) = false
is_on_events _ = true

-- what the last write to a location can leave there, whatever is asked of the final state; by what is asked too where that can be any value
abbrev pub words_left_at : Litmus → Knowledge → ℕ → Values
words_left_at t k loc = or_else (last_words t (filter is_on_events k.facts) k.readings loc) (last_words t k.facts k.readings loc)

-- what a register can hold at the end, and what the last write to a location can leave there
abbrev pub values_left_at : Litmus → Knowledge → Named → Values
values_left_at t k (Register core reg) = values_of (values_read k.readings) (register_left t core.0 reg)
values_left_at t k (Location loc) = words_left_at t k loc.0

-- a place, before others, if its values are known
abbrev pub with_place : Named → Values → List Place → List Place
with_place named None places = places
with_place named (Some values) places = record { named = named; values = values } ∷ places

abbrev pub places_at : Litmus → Knowledge → List Named → List Place
places_at t k [] = []
places_at t k (n ∷ ns) = with_place n (values_left_at t k n) (places_at t k ns)

abbrev pub places_in : Litmus → Knowledge → Fact → List Place
places_in t k (given.Holds claim truth) = places_at t k (with_names_of claim [])
places_in t k _ = []

-- the places of the first of these facts that can't be so
abbrev pub places_false : Litmus → Knowledge → List Fact → List Place
places_false t k [] = []
places_false t k (f ∷ facts) = if is_impossible t k f then places_in t k f else places_false t k facts

-- ---- why a branch is closed

-- what a question asks of: an event, the initial word of a location, or a location
pub data Subject : Type 0 where
  OfEvent : Event → Subject
  OfInitial : (loc : ℕ) → Subject
  OfLocation : (loc : ℕ) → Subject

pub data Closing : Type 0 where
  -- a cycle of uniproc; a cycle of the global relation
  Uniproc : (edges : List Edge) → Closing
  Cycle : (edges : List Edge) → Closing
  -- a write between the two parts of a locked instruction
  Amid : (read between write : Event) → Closing
  -- a part of what is asked is false by what stands in these places
  False : (places : List Place) → Closing
  -- a question of this kind has no answer
  NoAnswer : (kind : List ℕ) → Subject → Closing
  -- the facts of the lemma with this number, from 1, are met
  ByLemma : (number : ℕ) → Closing

abbrev pub subject_at : Litmus → Knowledge → ℕ → Option Entry → Subject
subject_at t k loc None = OfInitial loc
subject_at t k loc (Some w) = OfEvent (event_at t k w)

-- why a node without branches closes its branch; the last two questions always have answers
abbrev pub closing_at : Model → Litmus → Knowledge → Node → Closing
closing_at model t k (refutations.OnLocation cycle) = Uniproc (edges_of t k on_location cycle)
closing_at model t k (refutations.Globally cycle) = Cycle (edges_of t k (global_in model) cycle)
closing_at model t k (refutations.Between r v w) = Amid (event_at t k r) (event_at t k v) (event_at t k w)
closing_at model t k refutations.FalseClaim = False (places_false t k k.facts)
closing_at model t k (refutations.ByLemma number) = ByLemma (number + 1)
closing_at model t k (refutations.ReadsFrom r) = NoAnswer (codes "source") (OfEvent (event_at t k r))
closing_at model t k (refutations.ReadsValue r) = NoAnswer (codes "value") (OfEvent (event_at t k r))
closing_at model t k (refutations.IsReadBy loc word) = NoAnswer (codes "reader") (subject_at t k loc word)
closing_at model t k (refutations.ComesLast loc) = NoAnswer (codes "last") (OfLocation loc)
closing_at model t k (refutations.Asks fact) = False []
closing_at model t k (refutations.HasCase fact) = False []
