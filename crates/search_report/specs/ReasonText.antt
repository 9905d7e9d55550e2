-- What `why` prints as lines of text: the head of each answer, events and edges, and an execution in which what a test asks is so.
use Rattle.std.specs.Prelude.{ℕ, suc, Bool, true, false, List, [], ◌∷◌, ◌++◌, filter, Option, Some, None, slice_index_or, codes, replicate}
use Rattle.std.specs.List.{flat_map}
use Rattle.std.specs.Fmt.{decimal}
use Rattle.search_report.specs.Vocabulary.{Choice, Condition, entry, Entry, Exists, F, Forall, is_read, key_of, Kind, letters_of, line}
use Rattle.search_report.specs.Vocabulary.{Litmus, looked_at, Model, NotExists, printed_entry, printed_quantifier, printed_truth}
use Rattle.search_report.specs.Vocabulary.{Quantifier, Relation, test_line, values_in, verdict_line}
use Rattle.relational_model.specs.Candidates.{Candidate, events, registers_left, words_left}
use Rattle.refutation_laws.specs.declared.model.Model.TheVariants.{Tso, Sequential}
use Rattle.refutation_laws.specs.declared.model.Relation.TheVariants.{Po, PoLoc, PoGhb, Mfence, Implied, Rf, Rfe, Co, Fr}
use Rattle.search_report.specs.Outcomes.{by_line, state_line}
use Rattle.search_report.specs.Places.{Place}
use Rattle.search_report.specs.declared.shown.Event.{Event}
use Rattle.search_report.specs.declared.shown.Edge.{Edge}

-- ---- what is asked
abbrev pub model_name : Model → List ℕ
model_name Tso = codes "tso"
model_name Sequential = codes "sc"

-- the truth of its proposition that a condition asks for
abbrev pub truth_asked : Quantifier → Bool
truth_asked Exists = true
truth_asked NotExists = true
truth_asked Forall = false

-- `Asked exists true`; nothing without a condition
abbrev pub asked_line : Option Condition → List ℕ
asked_line None = []
asked_line (Some c) = codes "Asked " ++ (printed_quantifier c.quantifier ++ (codes " " ++ line (printed_truth (truth_asked c.quantifier))))

-- ---- events and edges

-- ` x`; a fence has no location
abbrev pub location_text : Litmus → Kind → ℕ → List ℕ
location_text t F loc = []
location_text t _ loc = codes " " ++ slice_index_or t.locations loc []

-- an event: an entry as orders have it, without its value where that isn't known
abbrev pub entry_text : Litmus → Entry → Option ℕ → List ℕ
entry_text t e (Some value) = printed_entry t (entry e.core.0 e.place e.kind e.loc value)
entry_text t e None =
    codes "P" ++ (decimal e.core.0 ++ (codes ":" ++ (decimal e.place ++ (codes " " ++ (letters_of e.kind ++ location_text t e.kind e.loc.0)))))

abbrev pub event_text : Litmus → Event → List ℕ
event_text t e = entry_text t e.entry e.value

-- the name of a relation; uniproc's po is that of one location
abbrev pub relation_name : Relation → List ℕ
relation_name Po = codes "po"
relation_name PoLoc = codes "po"
relation_name PoGhb = codes "po"
relation_name Mfence = codes "mfence"
relation_name Implied = codes "implied"
relation_name Rf = codes "rf"
relation_name Rfe = codes "rf"
relation_name Co = codes "co"
relation_name Fr = codes "fr"

-- an edge of no relation, which no refutation has, has no name
abbrev pub relation_text : Option Relation → List ℕ
relation_text None = []
relation_text (Some r) = relation_name r

-- ` po P0:1 W y=1`
abbrev pub hop_text : Litmus → Edge → List ℕ
hop_text t e = codes " " ++ (relation_text e.relation ++ (codes " " ++ event_text t e.target))

-- ` P0:0 W x=1 po P0:1 W y=1 ..`
abbrev pub cycle_text : Litmus → List Edge → List ℕ
cycle_text t [] = []
cycle_text t (e ∷ es) = codes " " ++ (event_text t e.source ++ flat_map (hop_text t) (e ∷ es))

-- ---- what lines show

-- a write, or the initial one
abbrev pub source_text : Litmus → Option Event → List ℕ
source_text t None = codes "initial"
source_text t (Some w) = event_text t w

abbrev pub bar_text : ℕ → List ℕ
bar_text v = codes "|" ++ decimal v

-- `1|2`
abbrev pub words_text : List ℕ → List ℕ
words_text [] = []
words_text (v ∷ vs) = decimal v ++ flat_map bar_text vs

-- ` 1:EAX=0`, or ` x=1|2`
abbrev pub place_text : Litmus → Place → List ℕ
place_text t p = codes " " ++ (key_of t p.named ++ (codes "=" ++ words_text p.values))

-- a blank for each step that a line stands deeper
abbrev pub blanks : ℕ → List ℕ
blanks depth = replicate depth 32

-- ---- what can't be

-- `Never tso leaves=3`
abbrev pub never_line : Model → ℕ → List ℕ
never_line model leaves = codes "Never " ++ (model_name model ++ (codes " leaves=" ++ line (decimal leaves)))

-- ---- what can be

-- what a read reads from
abbrev pub read_source : Litmus → Option Entry → List ℕ
read_source t None = codes "initial"
read_source t (Some w) = printed_entry t w

-- `From P0:1 R y=0 initial`
abbrev pub from_line : Litmus → Candidate → Entry → List ℕ
from_line t c r = codes "From " ++ (printed_entry t r ++ (codes " " ++ line (read_source t (c.source r))))

-- the reads of a candidate, core by core in program order
abbrev pub reads_of : Litmus → Candidate → List Entry
reads_of t c = filter is_read (events t c)

-- `Coherence x P0:0 W x=1 ..`; nothing where no write goes
abbrev pub coherence_line : Litmus → List ℕ → List Entry → List ℕ
coherence_line t name [] = []
coherence_line t name (w ∷ ws) = codes "Coherence " ++ (name ++ line (flat_map (λ v. codes " " ++ printed_entry t v) (w ∷ ws)))

-- for each location from this one on
abbrev pub coherence_lines : Litmus → Candidate → ℕ → List (List ℕ) → List ℕ
coherence_lines t c loc [] = []
coherence_lines t c loc (name ∷ names) = coherence_line t name (c.coherence loc) ++ coherence_lines t c (suc loc) names

-- the values of what is looked at, as the candidate leaves them
abbrev pub values_left : Litmus → Candidate → List ℕ
values_left t c = values_in t (registers_left t c) (words_left t c)

-- the text of a candidate in which what the test asks is so, and of choices that lead there
abbrev pub allowed_text : Model → Litmus → Candidate → List Choice → List ℕ
allowed_text model t c choices =
    test_line t ++ (codes "Allowed " ++ (line (model_name model) ++ (asked_line t.condition
    ++ (flat_map (from_line t c) (reads_of t c) ++ (coherence_lines t c 0 t.locations
    ++ (by_line choices ++ (state_line t (looked_at t) (values_left t c) ++ verdict_line t.condition true)))))))

-- ---- too many cases

-- `Unfinished cases=N`: the search met its limit, and all that is printed is this line
abbrev pub unfinished_reason_line : ℕ → List ℕ
unfinished_reason_line limit = codes "Unfinished cases=" ++ line (decimal limit)
