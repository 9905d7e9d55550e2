-- What `why` prints as a JSON value, for programs to read. Its objects have their keys in the order of their bytes.
-- (This project's profile.)
use Rattle.std.specs.Prelude.{ℕ, suc, true, false, List, [], ◌∷◌, map, Option, Some, None, codes}
use Rattle.search_report.specs.Vocabulary.{array, boolean, Candidate, Choice, Condition, Data, Entry, items_of, key_of, line, Litmus}
use Rattle.search_report.specs.Vocabulary.{looked_at, member, Members, Model, no_members, null, object, outcomes_verdict_value}
use Rattle.search_report.specs.Vocabulary.{printed_choices, printed_entry, printed_quantifier, put, string, value_members}
use Rattle.serde_json.specs.Written.{compact_text}
use Rattle.tso_report.specs.Json.{count}
use Rattle.search_report.specs.Places.{Place}
use Rattle.search_report.specs.declared.shown.Event.{Event}
use Rattle.search_report.specs.declared.shown.Edge.{Edge}
use Rattle.search_report.specs.ReasonText.{model_name, truth_asked, event_text, relation_text, source_text, read_source, reads_of, values_left}

-- ---- what is asked

-- the quantifier, and the truth that it asks for; `null` without a condition
abbrev pub asked_value : Option Condition → Data
asked_value None = null
asked_value (Some c) =
    object (member (codes "kind") (string (printed_quantifier c.quantifier))
    (member (codes "truth") (boolean (truth_asked c.quantifier)) no_members))

-- ---- what lines show
abbrev pub event_value : Litmus → Event → Data
event_value t e = string (event_text t e)

abbrev pub edge_value : Litmus → Edge → Data
edge_value t e =
    object (member (codes "from") (event_value t e.source)
    (member (codes "relation") (string (relation_text e.relation))
    (member (codes "to") (event_value t e.target) no_members)))

abbrev pub edges_value : Litmus → List Edge → Data
edges_value t edges = array (items_of (map (edge_value t) edges))

-- a member for each place, where the bytes of its key belong: the values that it has
abbrev pub place_members : Litmus → List Place → Members
place_members t [] = no_members
place_members t (p ∷ ps) = put (key_of t p.named) (array (items_of (map count p.values))) (place_members t ps)

-- ---- what can be
abbrev pub from_value : Litmus → Candidate → Entry → Data
from_value t c r =
    object (member (codes "read") (string (printed_entry t r))
    (member (codes "write") (string (read_source t (c.source r))) no_members))

-- the writes to a location in their order, where there are some
abbrev pub with_coherence : Litmus → List ℕ → List Entry → Members → Members
with_coherence t name [] members = members
with_coherence t name (w ∷ ws) members = put name (array (items_of (map (λ v. string (printed_entry t v)) (w ∷ ws)))) members

-- for each location from this one on
abbrev pub coherence_members : Litmus → Candidate → ℕ → List (List ℕ) → Members
coherence_members t c loc [] = no_members
coherence_members t c loc (name ∷ names) = with_coherence t name (c.coherence loc) (coherence_members t c (suc loc) names)

abbrev pub allowed_value : Model → Litmus → Candidate → List Choice → Data
allowed_value model t c choices =
    object (member (codes "answer") (string (codes "allowed"))
    (member (codes "asked") (asked_value t.condition)
    (member (codes "choices") (string (printed_choices choices))
    (member (codes "coherence") (object (coherence_members t c 0 t.locations))
    (member (codes "model") (string (model_name model))
    (member (codes "sources") (array (items_of (map (from_value t c) (reads_of t c))))
    (member (codes "test") (string t.name)
    (member (codes "values") (object (value_members t (looked_at t) (values_left t c)))
    (member (codes "verdict") (outcomes_verdict_value t.condition true) no_members)))))))))

-- ---- too many cases
abbrev pub unfinished_reason_value : Litmus → ℕ → Data
unfinished_reason_value t limit =
    object (member (codes "test") (string t.name)
    (member (codes "unfinished") (object (member (codes "cases") (count limit) no_members)) no_members))

-- ---- what is printed: the compact text of the value, on one line
abbrev pub allowed_json : Model → Litmus → Candidate → List Choice → List ℕ
allowed_json model t c choices = line (compact_text (allowed_value model t c choices))

abbrev pub unfinished_reason_json : Litmus → ℕ → List ℕ
unfinished_reason_json t limit = line (compact_text (unfinished_reason_value t limit))
