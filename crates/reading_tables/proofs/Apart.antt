-- The program of another core orders neither a read nor a write before the other.
use Rattle.reading_tables.proofs.Vocabulary.{◌≡◌, ◌&&◌, ◌||◌, ◌==◌, ℕ, true, false, List, [], ◌∷◌, Some, refl, sym, ap, ◌∙◌, list_any, filter, Entry}
use Rattle.reading_tables.proofs.Vocabulary.{Litmus}
use Rattle.std.specs.Prelude.{not}
use Rattle.relational_model.proofs.KindFacts.{and-both, same-number, number-same}
use Rattle.relational_model.proofs.Found.{apart-three, is-false}
use Rattle.tso_terms.specs.ProgramOrder.{writes_to, is_before}
use Rattle.refutation_laws.specs.Known.{events_of}
use Rattle.possible_reads.specs.Possible.{is_in_order}
use Rattle.reading_tables.specs.inner.Tables.{is_of_core}
use Rattle.reading_tables.proofs.OwnFacts.{any-own}

one-core : (x y : Entry) → is_before x y ≡ true → x.core.0 ≡ y.core.0
one-core x y h = same-number x.core.0 y.core.0 (and-both (x.core.0 == y.core.0) _ h).0

none-between : (loc : ℕ) (w r : Entry) → (w.core.0 == r.core.0) ≡ false → (vs : List Entry)
    → list_any (λ v. writes_to loc v && is_before w v && is_before v r) vs ≡ false
none-between loc w r h [] = refl
none-between loc w r h (v ∷ vs) =
    ap (λ b. b || list_any (λ v. writes_to loc v && is_before w v && is_before v r) vs)
    (is-false (writes_to loc v && is_before w v && is_before v r) (λ so.
    let parts = apart-three (writes_to loc v) (is_before w v) (is_before v r) so in
    let q : (w.core.0 == r.core.0) ≡ true = number-same w.core.0 r.core.0 (one-core w v parts.1 ∙ one-core v r parts.2) in
    let z : ⊥ = cc in z))
    ∙ none-between loc w r h vs

pub apart-in-order : (t : Litmus) (r w : Entry) → (w.core.0 == r.core.0) ≡ false → is_in_order t r (Some w) ≡ true
apart-in-order t r w h =
    ap (λ b. not b && not (list_any (λ v. writes_to r.loc.0 v && is_before w v && is_before v r) (events_of t)))
    (is-false (is_before r w) (λ so.
    let q : (w.core.0 == r.core.0) ≡ true = number-same w.core.0 r.core.0 (sym (one-core r w so)) in
    let z : ⊥ = cc in z))
    ∙ ap not (none-between r.loc.0 w r h (events_of t))

-- ---- only the events of the read's core count

other-first : (loc : ℕ) (r e : Entry) → is_of_core r.core.0 e ≡ false → (writes_to loc e && is_before e r) ≡ false
other-first loc r e h = is-false (writes_to loc e && is_before e r) (λ so.
    let parts = and-both (writes_to loc e) (is_before e r) so in
    let q : (e.core.0 == r.core.0) ≡ true = number-same e.core.0 r.core.0 (one-core e r parts.1) in
    let z : ⊥ = cc in z)

other-between : (loc : ℕ) (w r e : Entry) → is_of_core r.core.0 e ≡ false → (writes_to loc e && is_before w e && is_before e r) ≡ false
other-between loc w r e h = is-false (writes_to loc e && is_before w e && is_before e r) (λ so.
    let parts = apart-three (writes_to loc e) (is_before w e) (is_before e r) so in
    let q : (e.core.0 == r.core.0) ≡ true = number-same e.core.0 r.core.0 (one-core e r parts.2) in
    let z : ⊥ = cc in z)

pub hidden-by-own : (r : Entry) (es : List Entry)
    → list_any (λ w. writes_to r.loc.0 w && is_before w r) (filter (is_of_core r.core.0) es) ≡ list_any (λ w. writes_to r.loc.0 w && is_before w r) es
hidden-by-own r es = any-own (is_of_core r.core.0) (λ w. writes_to r.loc.0 w && is_before w r) (other-first r.loc.0 r) es

pub overwritten-by-own : (w r : Entry) (es : List Entry)
    → list_any (λ v. writes_to r.loc.0 v && is_before w v && is_before v r) (filter (is_of_core r.core.0) es)
    ≡ list_any (λ v. writes_to r.loc.0 v && is_before w v && is_before v r) es
overwritten-by-own w r es =
    any-own (is_of_core r.core.0) (λ v. writes_to r.loc.0 v && is_before w v && is_before v r) (other-between r.loc.0 w r) es
