-- The values that are printed have no float, so that their text is known.
use Rattle.search_report.proofs.Vocabulary.{filter, writes_to, Entry, Choice, printed_entry, Named, Model, value_members}
use Rattle.search_report.proofs.Vocabulary.{outcomes_verdict_value, Reading, reading_value, coherence_members_by, with_coherence, ◌≡◌, ◌+◌}
use Rattle.search_report.proofs.Vocabulary.{ℕ, Bool, true, false, List, [], ◌∷◌, map, Option, Some, None, refl, string, array, Members}
use Rattle.search_report.proofs.Vocabulary.{items_of, has_float, items_have_float, members_have_float, Litmus, Condition, count, key_of}
use Rattle.search_report.proofs.Vocabulary.{Place, source_text, edge_value, edges_value, place_members, asked_value}
use Rattle.search_report.specs.declared.shown.Edge.{Edge}
use Rattle.tso_report.proofs.NoFloats.{neither, one_more, each}
use Rattle.search_report.proofs.ShownReasons.{value-from}

asked : (o : Option Condition) → has_float (asked_value o) ≡ false
asked None = refl
asked (Some c) = refl

verdict : (o : Option Condition) (allowed : Bool) → has_float (outcomes_verdict_value o allowed) ≡ false
verdict None allowed = refl
verdict (Some c) allowed = refl

with-writes : (t : Litmus) (name : List ℕ) (ws : List Entry) (ms : Members)
    → members_have_float ms ≡ false
    → members_have_float (with_coherence t name ws ms) ≡ false
with-writes t name [] ms h = h
with-writes t name (w ∷ ws) ms h =
    one_more name (array (items_of (map (λ v. string (printed_entry t v)) (w ∷ ws)))) ms (each (λ v. string (printed_entry t v)) (λ v. refl) (w ∷ ws)) h

writes : (t : Litmus) (order : List Entry) (loc : ℕ) (names : List (List ℕ)) → members_have_float (coherence_members_by t order loc names) ≡ false
writes t order loc [] = refl
writes t order loc (name ∷ names) =
    with-writes t name (filter (writes_to loc) order) (coherence_members_by t order (loc + 1) names) (writes t order (loc + 1) names)

named : (t : Litmus) (ns : List Named) (vs : List ℕ) → members_have_float (value_members t ns vs) ≡ false
named t [] vs = refl
named t (n ∷ ns) [] = refl
named t (n ∷ ns) (v ∷ vs) = one_more (key_of t n) (count v) (value_members t ns vs) refl (named t ns vs)

pub allowed-has-no-float : (t : Litmus) (order : List Entry) (xs : List Reading) (choices : List Choice) (n m : List ℕ) (ns : List Named) (vs : List ℕ)
    → has_float (value-from t choices n m (map (reading_value t) xs) (coherence_members_by t order 0 t.locations) (value_members t ns vs)) ≡ false
allowed-has-no-float t order xs choices n m ns vs =
    neither (has_float (asked_value t.condition)) _ (asked t.condition)
    (neither (members_have_float (coherence_members_by t order 0 t.locations)) _ (writes t order 0 t.locations)
    (neither (items_have_float (items_of (map (reading_value t) xs))) _ (each (reading_value t) (λ x. refl) xs)
    (neither (members_have_float (value_members t ns vs)) _ (named t ns vs)
    (neither (has_float (outcomes_verdict_value t.condition true)) false (verdict t.condition true) refl))))
