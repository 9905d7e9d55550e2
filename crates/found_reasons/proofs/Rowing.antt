-- A full case that no leaf closes: all of its events can be put in a row; and a write between two parts is found where there is one.
use Rattle.found_reasons.proofs.Vocabulary.{◌≡◌, Bool, true, false, not, if◌then◌else◌, List, [], ◌∷◌, Option, Some, None, map, refl, sym}
use Rattle.found_reasons.proofs.Vocabulary.{ap, ◌∙◌, ◌⊎◌, inl, inr, subst, Litmus, IsTest, Entry, IsIn, in-case, in-none, in-first}
use Rattle.found_reasons.proofs.Vocabulary.{in-later, in-filter, filter-in, and-both, and-of, once-filter, once-events, Ordered, Once}
use Rattle.found_reasons.proofs.Vocabulary.{Known, bare, events_of, is_event, is-event, is_read, on_location, global_in, Knowledge, is_edge}
use Rattle.found_reasons.proofs.Vocabulary.{are_parts, is_between, list_any, is_impossible, asked_claim, IsFull, IsSound, Model, IsOpen}
use Rattle.found_reasons.proofs.Vocabulary.{From, sources_read, IsSorted, IsAllowedCase, LeafIfAny, first_of_two, write_between_these}
use Rattle.found_reasons.proofs.Vocabulary.{write_between_from, first_write_between, first_where, has_no_source, is_none_left, read_of}
use Rattle.found_reasons.proofs.Vocabulary.{from-not}
use Rattle.std.proofs.Common.{filter}
use Rattle.relational_model.specs.Candidates.{events_from}
use Rattle.refutation_laws.specs.Models.{IsMet}
use Rattle.refutation_laws.specs.inner.Orders.{comes_toward, is_load_part, IsLinearExtension, valued, with_loads, order_along}
use Rattle.refutation_laws.proofs.Building.{one-event}
use Rattle.refutation_laws.proofs.Progress.{never-stuck}
use Rattle.refutation_laws.proofs.Completeness.{six-of}
use Rattle.refutation_laws.proofs.Ordering.{row-is-met}
use Rattle.refutations.specs.declared.tree.Node.{Node}
use Rattle.refutations.specs.declared.tree.Node.TheVariants.{Between}
use Rattle.refutations.specs.declared.tree.Node.TheVariants as code
use Rattle.found_reasons.proofs.Answered.{where-found, none-where}
use Rattle.found_reasons.proofs.Determining.{names}

-- ---- each event of a test once

in-bare : (xs : List Entry) (y : Entry) → IsIn (map bare xs) y → (x : Entry) × (IsIn xs x × (y ≡ bare x))
in-bare [] y i = absurd (in-none y i)
in-bare (x ∷ xs) y i = elim (in-case (bare x) (map bare xs) y i) [
  | inl e ↦ (x, (in-first x xs x refl, e))
  | inr j ↦ let m = in-bare xs y j in (m.0, (in-later x xs m.0 m.1.0, m.1.1))
]

once-bare : (xs : List Entry) → Once xs → ((x y : Entry) → IsIn xs x → IsIn xs y → bare x ≡ bare y → x ≡ y) → Once (map bare xs)
once-bare [] o one = tt
once-bare (x ∷ xs) o one = (
  (λ i.
      let m = in-bare xs (bare x) i in
      o.0 (subst (IsIn xs) (sym (one x m.0 (in-first x xs x refl) (in-later x xs m.0 m.1.0) m.1.1)) m.1.0)),
  once-bare xs o.1 (λ y z i j e. one y z (in-later x xs y i) (in-later x xs z j) e),
)

each-once : (t : Litmus) → Once (events_of t)
each-once t =
    once-bare (events_from 0 t.programs t.registers []) (once-events 0 t.programs t.registers []) (λ x y i j e. one-event t [] x y i j e)

-- ---- the row

abbrev pub open-case : (model : Model) (t : Litmus) (k : Known) → IsTest t → IsFull t k → IsAllowedCase model t k → IsOpen model t k
open-case model t k test f u = record { full = f; six = six-of t test; within_locations = u.on_location; globally = u.globally }

whole-row : (model : Model) (t : Litmus) (k : Known) → IsTest t → IsFull t k → IsSound t k → IsAllowedCase model t k → (others row rest : List Entry)
    → others ≡ filter (λ e. not (is_load_part e)) (events_of t) → IsSorted (comes_toward model t k) others row rest → IsLinearExtension model t k row
whole-row model t k test f d u others row rest is s = record {
  inside = λ x i. other x (s.parted.in_row x i);
  whole = λ x i n. on x (s.parted.whole x (subst (λ es. IsIn es x) (sym is) (filter-in (λ e. not (is_load_part e)) (events_of t) x i (ap not n))));
  once = s.parted.once (subst Once (sym is) (once-filter (λ e. not (is_load_part e)) (events_of t) (each-once t)));
  forward = s.parted.forward;
}
  where
    other : (x : Entry) → IsIn others x → IsIn (events_of t) x × (is_load_part x ≡ false)
    other x i =
        let m = in-filter (λ e. not (is_load_part e)) (events_of t) x (subst (λ es. IsIn es x) is i) in
        (m.0, from-not (is_load_part x) m.1)

    on : (x : Entry) → IsIn row x ⊎ IsIn rest x → IsIn row x
    on x (inl i) = i
    on x (inr i) =
        absurd (never-stuck model t k (open-case model t k test f u) u.none_between d rest (λ y j. other y (s.parted.in_rest y j)) s.stuck x i)

-- with its values and its load parts it is an execution in which what is asked is true
pub row-met : (model : Model) (t : Litmus) (k : Known) → IsTest t → IsFull t k → IsSound t k → IsAllowedCase model t k → (others row rest order : List Entry)
    → others ≡ filter (λ e. not (is_load_part e)) (events_of t) → IsSorted (comes_toward model t k) others row rest → order ≡ order_along t k row
    → IsMet model t (asked_claim t.condition) order
row-met model t k test f d u others row rest order is s so =
    subst (IsMet model t (asked_claim t.condition)) (sym so)
    (row-is-met model t k (open-case model t k test f u) u.none_between (asked_claim t.condition) (names t test) u.can_be row
    (whole-row model t k test f d u others row rest is s))

-- the same, by the steps of the code
pub order-met : (model : Model) (t : Litmus) (k : Known) → IsTest t → IsFull t k → IsSound t k → IsAllowedCase model t k
    → (es others now row rest now2 order : List Entry) → es ≡ events_of t → others ≡ filter (λ e. not (is_load_part e)) es → now ≡ others
    → IsSorted (comes_toward model t k) now row rest → now2 ≡ row → order ≡ map (valued t k) (with_loads es now2)
    → IsMet model t (asked_claim t.condition) order
order-met model t k test f d u es others now row rest now2 order e o a s b v =
    row-met model t k test f d u others row rest order (o ∙ ap (filter (λ x. not (is_load_part x))) e)
    (subst (λ xs. IsSorted (comes_toward model t k) xs row rest) a s)
    (v ∙ ap (map (valued t k)) (ap (λ xs. with_loads xs now2) e ∙ ap (with_loads (events_of t)) b))

-- ---- a write between two parts

record IsBetween (t : Litmus) (k : Knowledge) (n : Node) : Type 0 where
  read : Entry
  between : Entry
  write : Entry
  is : Between read between write ≡ n
  holds : is_between t k read between write ≡ true

these-found : (t : Litmus) (k : Knowledge) (r w : Entry) (vs : List Entry) (n : Node) → write_between_these t k r w vs ≡ Some n → IsBetween t k n
these-found t k r w [] n e = let z : ⊥ = cc in absurd z
these-found t k r w (v ∷ vs) n e = go (is_between t k r v w) refl e (λ f. these-found t k r w vs n f)
  where
    go : (b : Bool) → is_between t k r v w ≡ b → (if b then Some (Between r v w) else write_between_these t k r w vs) ≡ Some n
        → (write_between_these t k r w vs ≡ Some n → IsBetween t k n) → IsBetween t k n
    go true q f later = record { read = r; between = v; write = w; is = let z : Between r v w ≡ n = cc in z; holds = q }
    go false q f later = later f

none-of-these : (t : Litmus) (k : Knowledge) (r w : Entry) (vs : List Entry) → write_between_these t k r w vs ≡ None → (v : Entry) → IsIn vs v
    → is_between t k r v w ≡ true → ⊥
none-of-these t k r w [] e v i h = in-none v i
none-of-these t k r w (x ∷ vs) e v i h = go (is_between t k r x w) refl e (in-case x vs v i) (λ f j. none-of-these t k r w vs f v j h)
  where
    go : (b : Bool) → is_between t k r x w ≡ b → (if b then Some (Between r x w) else write_between_these t k r w vs) ≡ None
        → (v ≡ x) ⊎ IsIn vs v → (write_between_these t k r w vs ≡ None → IsIn vs v → ⊥) → ⊥
    go true q f j later = let z : ⊥ = cc in z
    go false q f (inl s) later = let g : is_between t k r x w ≡ true = subst (λ z. is_between t k r z w ≡ true) s h in let z : ⊥ = cc in z
    go false q f (inr j) later = later f j

two-found : (t : Litmus) (k : Knowledge) (a b : Option Node) (n : Node) → first_of_two a b ≡ Some n → (a ≡ Some n → IsBetween t k n)
    → (b ≡ Some n → IsBetween t k n) → IsBetween t k n
two-found t k (Some m) b n e f g = f e
two-found t k None b n e f g = g e

none-of-two : (a b : Option Node) → first_of_two a b ≡ None → (a ≡ None) × (b ≡ None)
none-of-two (Some m) b e = let z : ⊥ = cc in absurd z
none-of-two None b e = (refl, e)

from-found : (t : Litmus) (k : Knowledge) (r : Entry) (ws es : List Entry) (n : Node) → write_between_from t k r ws es ≡ Some n → IsBetween t k n
from-found t k r [] es n e = let z : ⊥ = cc in absurd z
from-found t k r (w ∷ ws) es n e = go (are_parts r w) e (λ f. from-found t k r ws es n f)
  where
    go : (b : Bool) → (if b then first_of_two (write_between_these t k r w es) (write_between_from t k r ws es) else write_between_from t k r ws es) ≡ Some n
        → (write_between_from t k r ws es ≡ Some n → IsBetween t k n) → IsBetween t k n
    go true f later = two-found t k (write_between_these t k r w es) (write_between_from t k r ws es) n f (λ g. these-found t k r w es n g) later
    go false f later = later f

none-from : (t : Litmus) (k : Knowledge) (r : Entry) (ws es : List Entry) → write_between_from t k r ws es ≡ None → (w v : Entry) → IsIn ws w → IsIn es v
    → is_between t k r v w ≡ true → ⊥
none-from t k r [] es e w v i j h = in-none w i
none-from t k r (x ∷ ws) es e w v i j h = go (are_parts r x) refl e (in-case x ws w i) (λ f l. none-from t k r ws es f w v l j h)
  where
    parts : (y : Entry) → is_between t k r v y ≡ true → are_parts r y ≡ true
    parts y q =
        let a = and-both _ _ q in
        let b = and-both _ _ a.0 in
        let d = and-both _ _ b.0 in
        (and-both _ (are_parts r y) d.0).1

    go : (b : Bool) → are_parts r x ≡ b
        → (if b then first_of_two (write_between_these t k r x es) (write_between_from t k r ws es) else write_between_from t k r ws es) ≡ None
        → (w ≡ x) ⊎ IsIn ws w → (write_between_from t k r ws es ≡ None → IsIn ws w → ⊥) → ⊥
    go true q f (inl s) later =
        none-of-these t k r x es (none-of-two (write_between_these t k r x es) (write_between_from t k r ws es) f).0 v j
        (subst (λ z. is_between t k r v z ≡ true) s h)
    go true q f (inr l) later = later (none-of-two (write_between_these t k r x es) (write_between_from t k r ws es) f).1 l
    go false q f (inl s) later =
        let g : are_parts r x ≡ true = parts x (subst (λ z. is_between t k r v z ≡ true) s h) in let z : ⊥ = cc in z
    go false q f (inr l) later = later f l

first-found : (t : Litmus) (k : Knowledge) (rs es : List Entry) (n : Node) → first_write_between t k rs es ≡ Some n → IsBetween t k n
first-found t k [] es n e = let z : ⊥ = cc in absurd z
first-found t k (r ∷ rs) es n e =
    two-found t k (write_between_from t k r es es) (first_write_between t k rs es) n e (λ f. from-found t k r es es n f) (λ f. first-found t k rs es n f)

none-first : (t : Litmus) (k : Knowledge) (rs es : List Entry) → first_write_between t k rs es ≡ None → (r v w : Entry) → IsIn rs r → IsIn es v → IsIn es w
    → is_between t k r v w ≡ true → ⊥
none-first t k [] es e r v w i j l h = in-none r i
none-first t k (x ∷ rs) es e r v w i j l h = elim (in-case x rs r i) [
  | inl s ↦ none-from t k x es es two.0 w v l j (subst (λ z. is_between t k z v w ≡ true) s h)
  | inr m ↦ none-first t k rs es two.1 r v w m j l h
]
  where
    two : (write_between_from t k x es es ≡ None) × (first_write_between t k rs es ≡ None)
    two = none-of-two (write_between_from t k x es es) (first_write_between t k rs es) e

pub found-between : (model : Model) (t : Litmus) (k : Knowledge) (n : Node) → first_write_between t k (events_of t) (events_of t) ≡ Some n
    → LeafIfAny model t k (Some n)
found-between model t k n e =
    let m = first-found t k (events_of t) (events_of t) n e in
    subst (λ z. LeafIfAny model t k (Some z)) m.is (m.holds, refl)

abbrev NoneIsBetween : Litmus → Knowledge → Type 0
NoneIsBetween t k = (r v w : Entry) → IsIn (events_of t) r → IsIn (events_of t) v → IsIn (events_of t) w → is_between t k r v w ≡ true → ⊥

none-is-between : (t : Litmus) (k : Knowledge) → first_write_between t k (events_of t) (events_of t) ≡ None → NoneIsBetween t k
none-is-between t k e = λ r v w i j l h. none-first t k (events_of t) (events_of t) e r v w i j l h

-- ---- a read without a source

pub found-sourceless : (model : Model) (t : Litmus) (k : Knowledge) (n : Node) → read_of (first_where (has_no_source t k) (events_of t)) ≡ Some n
    → LeafIfAny model t k (Some n)
found-sourceless model t k n e = go (first_where (has_no_source t k) (events_of t)) refl e
  where
    no-answers : (r : Entry) (os : List (Option Entry)) → is_none_left os ≡ true → map (λ source. From r source true ∷ []) os ≡ []
    no-answers r [] h = refl
    no-answers r (s ∷ os) h = let z : ⊥ = cc in absurd z

    go : (o : Option Entry) → first_where (has_no_source t k) (events_of t) ≡ o → read_of o ≡ Some n → LeafIfAny model t k (Some n)
    go None q h = let z : ⊥ = cc in absurd z
    go (Some r) q h =
        let m = where-found (has_no_source t k) (events_of t) r q in
        let b = and-both (is_read r) (is_none_left (sources_read t k.readings r)) m.1 in
        let same : code.ReadsFrom r ≡ n = cc in
        subst (λ z. LeafIfAny model t k (Some z)) same
        (and-of (is_event t r) (is_read r) (is-event t r m.0) b.0, no-answers r (sources_read t k.readings r) b.1)

each-has-source : (t : Litmus) (k : Knowledge) → read_of (first_where (has_no_source t k) (events_of t)) ≡ None → (r : Entry) → IsIn (events_of t) r
    → has_no_source t k r ≡ false
each-has-source t k e = go (first_where (has_no_source t k) (events_of t)) refl e
  where
    go : (o : Option Entry) → first_where (has_no_source t k) (events_of t) ≡ o → read_of o ≡ None → (r : Entry) → IsIn (events_of t) r
        → has_no_source t k r ≡ false
    go None q h r i = none-where (has_no_source t k) (events_of t) q r i
    go (Some x) q h r i = let z : ⊥ = cc in absurd z

-- the last leaf that is looked for
pub leaf-or-none : (model : Model) (t : Litmus) (k : Knowledge) (es : List Entry) → es ≡ events_of t
    → Ordered (λ x y. is_edge t k on_location x y ≡ true) (events_of t) → Ordered (λ x y. is_edge t k (global_in model) x y ≡ true) (events_of t)
    → list_any (is_impossible t k) k.facts ≡ false → read_of (first_where (has_no_source t k) es) ≡ None
    → (o : Option Node) → o ≡ first_write_between t k es es → LeafIfAny model t k o
leaf-or-none model t k es e l g a r (Some n) h = found-between model t k n (ap (λ xs. first_write_between t k xs xs) (sym e) ∙ sym h)
leaf-or-none model t k es e l g a r None h = record {
  on_location = l;
  globally = g;
  none_between = none-is-between t k (ap (λ xs. first_write_between t k xs xs) (sym e) ∙ sym h);
  can_read = each-has-source t k (ap (λ xs. read_of (first_where (has_no_source t k) xs)) (sym e) ∙ r);
  can_be = a;
}
