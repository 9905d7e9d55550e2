-- The values of printed lines have no float, so that their text is known.
use Rattle.search_report.proofs.Vocabulary.{codes, ◌≡◌, ℕ, Bool, false, List, [], ◌∷◌, map, Option, Some, None, refl, string, array}
use Rattle.search_report.proofs.Vocabulary.{items_of, has_float, items_have_float, members_have_float, Litmus, Condition, count, key_of}
use Rattle.search_report.proofs.Vocabulary.{Model, outcomes_verdict_value, Place, edge_value, edges_value, place_members, asked_value}
use Rattle.search_report.specs.declared.shown.Edge.{Edge}
use Rattle.search_report.specs.Shown.{ShownFact, Closing, Uniproc, Cycle, Amid, False, NoAnswer, ByLemma}
use Rattle.search_report.specs.ShownText.{fact_text}
use Rattle.search_report.specs.Lines.{Line, Given, Never, Case, So, Leaf, Endcases}
use Rattle.search_report.specs.LineJson.{facts_value, closing_value, closed_value, case_value, line_value, never_value_of}
use Rattle.tso_report.proofs.NoFloats.{neither, one_more, each}

facts : (t : Litmus) (fs : List ShownFact) → has_float (facts_value t fs) ≡ false
facts t fs = each (λ f. string (fact_text t f)) (λ f. refl) fs

places : (t : Litmus) (ps : List Place) → members_have_float (place_members t ps) ≡ false
places t [] = refl
places t (p ∷ ps) =
    one_more (key_of t p.named) (array (items_of (map count p.values))) (place_members t ps) (each count (λ v. refl) p.values) (places t ps)

edges : (t : Litmus) (es : List Edge) → has_float (edges_value t es) ≡ false
edges t es = each (edge_value t) (λ e. refl) es

closing : (t : Litmus) (c : Closing) → has_float (closing_value t c) ≡ false
closing t (Uniproc es) = neither (has_float (edges_value t es)) false (edges t es) refl
closing t (Cycle es) = neither (has_float (edges_value t es)) false (edges t es) refl
closing t (Amid r v w) = refl
closing t (False ps) = neither (members_have_float (place_members t ps)) false (places t ps) refl
closing t (NoAnswer kind s) = refl
closing t (ByLemma n) = refl

closed : (t : Litmus) (c : Option Closing) → has_float (closed_value t c) ≡ false
closed t None = refl
closed t (Some c) = closing t c

answers : (t : Litmus) (step : List ℕ) (depth : ℕ) (question : List ℕ) (groups : List (List ShownFact))
    (c : Option Closing)
    → has_float (case_value t step depth question groups c) ≡ false
answers t step depth question groups c =
    neither (items_have_float (items_of (map (facts_value t) groups))) _ (each (facts_value t) (facts t) groups)
    (neither (has_float (closed_value t c)) false (closed t c) refl)

line : (t : Litmus) (l : Line) → has_float (line_value t l) ≡ false
line t (Given fs) = neither (has_float (facts_value t fs)) false (facts t fs) refl
line t (Never n fs) = neither (has_float (facts_value t fs)) false (facts t fs) refl
line t (Case depth question groups c) = answers t (codes "case") depth question groups c
line t (So depth question groups c) = answers t (codes "so") depth question groups c
line t (Leaf depth c) = neither (has_float (closing_value t c)) false (closing t c) refl
line t (Endcases depth) = refl

asked : (o : Option Condition) → has_float (asked_value o) ≡ false
asked None = refl
asked (Some c) = refl

verdict : (o : Option Condition) (allowed : Bool) → has_float (outcomes_verdict_value o allowed) ≡ false
verdict None allowed = refl
verdict (Some c) allowed = refl

pub lines-have-no-float : (model : Model) (t : Litmus) (ls : List Line) → has_float (never_value_of model t ls) ≡ false
lines-have-no-float model t ls =
    neither (has_float (asked_value t.condition)) _ (asked t.condition)
    (neither (items_have_float (items_of (map (line_value t) ls))) _ (each (line_value t) (line t) ls)
    (neither (has_float (outcomes_verdict_value t.condition false)) false (verdict t.condition false) refl))
