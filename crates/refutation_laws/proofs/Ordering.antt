-- The order of a full case that no leaf closes: a row of its events in which each edge goes forward, with the values that are known and each
-- load part put before its store part, is an execution of the model, and what is asked is true in its final state.
use Rattle.refutation_laws.proofs.Vocabulary.{◌≡◌, ◌+◌, ◌==◌, ◌&&◌, ◌||◌, ℕ, Bool, true, false, not, if◌then◌else◌, List, [], ◌∷◌, ◌++◌}
use Rattle.refutation_laws.proofs.Vocabulary.{length, slice_index, slice_index_or, refl, sym, ap, ◌∙◌, ◌⊎◌, inl, inr, subst, map, filter}
use Rattle.refutation_laws.proofs.Vocabulary.{Litmus, action_of, entry, fence, value_in, updated, entries_by, registers_by, values_after}
use Rattle.refutation_laws.proofs.Vocabulary.{entries_of, is_before, is_read, is_write, may_be_passed, same_kind, Claim, NamesExist}
use Rattle.refutation_laws.proofs.Vocabulary.{truth_of, final_words, final_registers, Instr, Action, Store, Load, Move, Fence, Lock, Entry}
use Rattle.refutation_laws.proofs.Vocabulary.{R, W, F, LR, LW, IsIn, Candidate, events_from, registers_left, words_left, LeaveTheSame}
use Rattle.refutation_laws.proofs.Vocabulary.{ArePair, IsAllowed, is_access, in-case, in-none, in-first, in-later, in-append, and-both}
use Rattle.refutation_laws.proofs.Vocabulary.{same-number, number-same, write-is-no-read, equal-kinds, kind-itself, parts, only}
use Rattle.refutation_laws.proofs.Vocabulary.{GoesForward, Once, Goes, Toward, pair, answer, load-of, put, in-put, sound, CanBeKept}
use Rattle.refutation_laws.proofs.Vocabulary.{IsKeptIn, in-order, goes-kept, Step, keeps, step-kept, tso-allows, Known, bare, events_of}
use Rattle.refutation_laws.proofs.Vocabulary.{reads_from, comes_before, are_parts, all_known, value_among, value_read, allows, IsMet, Model}
use Rattle.refutation_laws.proofs.Vocabulary.{Tso, Sequential, is_kept_by, must_precede, comes_toward, is_load_part, IsLinearExtension}
use Rattle.refutation_laws.proofs.Vocabulary.{value_or_zero, value_in_order, valued, with_loads, order_along, NoneBetween, is-false}
use Rattle.refutation_laws.proofs.Vocabulary.{map-append}
use Rattle.refutation_laws.proofs.Tests.{and-of, or-first, or-second, any-in, different, pick, pass}
use Rattle.refutation_laws.proofs.Standing.{Of, of-event, bare-events, in-map}
use Rattle.refutation_laws.proofs.Relating.{rf-bare, fr-bare}
use Rattle.refutation_laws.proofs.Settling.{IsOpen, own_events, own_candidate, own-in, all-given, all-known-values}
use Rattle.refutation_laws.proofs.Allowing.{rf-known, co-known, fr-known, is-allowed}
use Rattle.refutation_laws.proofs.Exactness.{claim-exact}

-- ---- a fence has no value

unfenced : (e x : Entry) → (e.kind ≡ F → ⊥) → x ≡ e → x.kind ≡ F → x.value ≡ 0
unfenced e x n q f = absurd (n (ap (λ (z : Entry). z.kind) (sym q) ∙ f))

fence-by : (core place : ℕ) (a : Action) (registers : List ℕ) (word : ℕ) (x : Entry) → IsIn (entries_by core place a registers word) x
    → x.kind ≡ F → x.value ≡ 0
fence-by core place (Store loc operand) registers word x i f = unfenced _ x (λ q. let z : ⊥ = cc in z) (only _ x i) f
fence-by core place (Load reg loc) registers word x i f = unfenced _ x (λ q. let z : ⊥ = cc in z) (only _ x i) f
fence-by core place (Move change) registers word x i f = absurd (in-none x i)
fence-by core place Fence registers word x i f = ap (λ (z : Entry). z.value) (only (fence core place) x i)
fence-by core place (Lock loc reg update) registers word x i f = go (in-case first (second ∷ []) x i)
  where
    first : Entry
    first = entry core place LR loc word

    second : Entry
    second = entry core place LW loc (updated update registers word)

    go : (x ≡ first) ⊎ IsIn (second ∷ []) x → x.value ≡ 0
    go (inl q) = unfenced first x (λ k. let z : ⊥ = cc in z) q f
    go (inr j) = unfenced second x (λ k. let z : ⊥ = cc in z) (only second x j) f

fence-in-program : (core place : ℕ) (p : List Instr) (registers values : List ℕ) (x : Entry)
    → IsIn (entries_of core place p registers values) x → x.kind ≡ F → x.value ≡ 0
fence-in-program core place [] registers values x i f = absurd (in-none x i)
fence-in-program core place (s ∷ p) registers values x i f = elim (in-append (entries_by core place (action_of s) registers (slice_index values 0)) _ x i) [
  | inl j ↦ fence-by core place (action_of s) registers (slice_index values 0) x j f
  | inr j ↦
      fence-in-program core (place + 1) p (registers_by (action_of s) registers (slice_index values 0)) (values_after (action_of s) values) x j f
]

fence-value : (core : ℕ) (ps : List (List Instr)) (registers reads : List (List ℕ)) (x : Entry)
    → IsIn (events_from core ps registers reads) x → x.kind ≡ F → x.value ≡ 0
fence-value core [] registers reads x i f = absurd (in-none x i)
fence-value core (p ∷ ps) registers reads x i f =
    elim (in-append (entries_of core 0 p (slice_index_or registers core []) (slice_index_or reads core [])) _ x i) [
      | inl j ↦ fence-in-program core 0 p (slice_index_or registers core []) (slice_index_or reads core []) x j f
      | inr j ↦ fence-value (core + 1) ps registers reads x j f
    ]

-- ---- lists

once-back : (f : Entry → Entry) (xs : List Entry) → Once (map f xs) → Once xs
once-back f [] o = tt
once-back f (x ∷ xs) o = ((λ i. o.0 (in-map f xs x i)), once-back f xs o.1)

-- ---- the two parts of a locked instruction

pub parts-pair : (r w : Entry) → are_parts r w ≡ true → ArePair r w
parts-pair r w h =
    let a = and-both (same_kind r.kind LR && same_kind w.kind LW && (r.core.0 == w.core.0)) (r.place == w.place) h in
    let b = and-both (same_kind r.kind LR && same_kind w.kind LW) (r.core.0 == w.core.0) a.0 in
    let d = and-both (same_kind r.kind LR) (same_kind w.kind LW) b.0 in
    record {
      read = equal-kinds r.kind LR d.0;
      write = equal-kinds w.kind LW d.1;
      core = same-number r.core.0 w.core.0 b.1;
      place = same-number r.place w.place a.1;
    }

pair-parts : (r w : Entry) → ArePair r w → are_parts r w ≡ true
pair-parts r w p =
    and-of _ (r.place == w.place)
    (and-of _ (r.core.0 == w.core.0)
    (and-of (same_kind r.kind LR) (same_kind w.kind LW) (subst (λ z. same_kind z LR ≡ true) (sym p.read) (kind-itself LR))
    (subst (λ z. same_kind z LW ≡ true) (sym p.write) (kind-itself LW))) (number-same r.core.0 w.core.0 p.core))
    (number-same r.place w.place p.place)

parts-answer : (r w : Entry) → are_parts r w ≡ answer (pair r w)
parts-answer r w = go (are_parts r w) refl (pair r w)
  where
    go : (b : Bool) → are_parts r w ≡ b → (d : ArePair r w ⊎ (ArePair r w → ⊥)) → are_parts r w ≡ answer d
    go b e (inl p) = pair-parts r w p
    go true e (inr n) = absurd (n (parts-pair r w e))
    go false e (inr n) = e

load-bare : (es : List Entry) (w : Entry) → filter (λ r. are_parts r (bare w)) (map bare es) ≡ map bare (load-of es w)
load-bare [] w = refl
load-bare (x ∷ xs) w = go (answer (pair x w)) (are_parts x w) (parts-answer x w) (load-bare xs w)
  where
    go : (b d : Bool)
        → d ≡ b
        → filter (λ r. are_parts r (bare w)) (map bare xs) ≡ map bare (load-of xs w)
        → (if d
        then bare x ∷ filter (λ r. are_parts r (bare w)) (map bare xs)
        else filter (λ r. are_parts r (bare w)) (map bare xs))
        ≡ map bare (if b then x ∷ load-of xs w else load-of xs w)
    go true true e later = ap (λ zs. bare x ∷ zs) later
    go false false e later = later
    go true false e later = let z : ⊥ = cc in absurd z
    go false true e later = let z : ⊥ = cc in absurd z

loads-bare : (es xs : List Entry) → with_loads (map bare es) (map bare xs) ≡ map bare (put es xs)
loads-bare es [] = refl
loads-bare es (x ∷ xs) =
    ap (λ zs. zs ++ (bare x ∷ with_loads (map bare es) (map bare xs))) (load-bare es x)
    ∙ (ap (λ zs. map bare (load-of es x) ++ (bare x ∷ zs)) (loads-bare es xs) ∙ sym (map-append bare (load-of es x) (x ∷ put es xs)))

pub load-kind : (e : Entry) → is_load_part e ≡ false → e.kind ≡ LR → ⊥
load-kind e h q = let k : is_load_part e ≡ true = subst (λ z. same_kind z LR ≡ true) (sym q) (kind-itself LR) in let z : ⊥ = cc in z

kind-load : (e : Entry) → (e.kind ≡ LR → ⊥) → is_load_part e ≡ false
kind-load e n = is-false (is_load_part e) (λ q. n (equal-kinds e.kind LR q))

-- ---- edges

-- what goes forward in an order of the model
abbrev pub BeforeIn : Model → Candidate → Entry → Entry → Type 0
BeforeIn Tso c = Goes c
BeforeIn Sequential c = Step c

kept-by : (model : Model) (x y : Entry) → is_before x y ≡ true → may_be_passed x y ≡ false → is_kept_by model x y ≡ true
kept-by Tso x y b p = and-of (is_before x y) (not (may_be_passed x y)) b (ap not p)
kept-by Sequential x y b p = b

module _ (model : Model) (t : Litmus) (k : Known) (o : IsOpen model t k) where
  abbrev es : List Entry
  es = own_events model t k o

  abbrev c : Candidate
  c = own_candidate model t k o

  goes-known : (x y : Entry) → IsIn es x → IsIn es y → Goes c x y → must_precede model k (bare x) (bare y) ≡ true
  goes-known x y i j (inl (b, p)) = or-first (is_kept_by model (bare x) (bare y)) _ (kept-by model (bare x) (bare y) b p)
  goes-known x y i j (inr (inl (f, n))) =
      or-second (is_kept_by model (bare x) (bare y)) _
      (or-first (reads_from k (bare x) (bare y) && not (x.core.0 == y.core.0)) _
      (and-of (reads_from k (bare x) (bare y)) _ (sym (rf-bare k x y) ∙ rf-known model t k o x y j f) (different x.core.0 y.core.0 n)))
  goes-known x y i j (inr (inr (inl e))) =
      or-second (is_kept_by model (bare x) (bare y)) _
      (or-second (reads_from k (bare x) (bare y) && not (x.core.0 == y.core.0)) _
      (or-first (comes_before k x y) _ (co-known model t k o x y e)))
  goes-known x y i j (inr (inr (inr f))) =
      or-second (is_kept_by model (bare x) (bare y)) _
      (or-second (reads_from k (bare x) (bare y) && not (x.core.0 == y.core.0)) _
      (or-second (comes_before k x y) _ (sym (fr-bare k x y) ∙ fr-known model t k o x y i f)))

  -- ---- values

  value-own : (x : Entry) → IsIn es x → (is_read x ≡ true) ⊎ ((is_write x ≡ true) ⊎ (x.kind ≡ F)) → value_in_order t k (bare x) ≡ x.value
  value-own x i (inl r) =
      pick (is_access x) _ 0 (or-first (is_read x) (is_write x) r)
      ∙ ap value_or_zero (pick (is_read x) (value_read t k (bare x)) _ r ∙ all-given model t k o x i r)
  value-own x i (inr (inl w)) =
      pick (is_access x) _ 0 (or-second (is_read x) (is_write x) w)
      ∙ ap value_or_zero
      (pass (is_read x) _ (value_among (all_known t k) (bare x)) (is-false (is_read x) (write-is-no-read x w))
      ∙ all-known-values model t k o x i w)
  value-own x i (inr (inr f)) =
      pass (is_access x) _ 0 (subst (λ q. ((same_kind q R || same_kind q LR) || (same_kind q W || same_kind q LW)) ≡ false) (sym f) refl)
      ∙ sym (fence-value 0 t.programs t.registers c.reads x i f)

  valued-own : (x : Entry) → IsIn es x → valued t k (bare x) ≡ x
  valued-own x i = ap (λ v. entry x.core.0 x.place x.kind x.loc v) (value-own x i (parts x))

  pub record Own (e : Entry) : Type 0 where
    pub inside : IsIn es (valued t k e)
    pub same : bare (valued t k e) ≡ e

  pub own : (e : Entry) → IsIn (events_of t) e → Own e
  own e i =
      let of : Of es e = of-event t c e i in
      let q : valued t k e ≡ of.entry = ap (valued t k) of.same ∙ valued-own of.entry of.inside in
      record { inside = subst (IsIn es) (sym q) of.inside; same = ap bare q ∙ sym of.same }

  bare-row : (row : List Entry) → ((x : Entry) → IsIn row x → IsIn (events_of t) x) → map bare (map (valued t k) row) ≡ row
  bare-row [] f = refl
  bare-row (x ∷ xs) f =
      ap (λ z. z ∷ map bare (map (valued t k) xs)) (own x (f x (in-first x xs x refl))).same
      ∙ ap (λ zs. x ∷ zs) (bare-row xs (λ y i. f y (in-later x xs y i)))

  valued-row : (xs : List Entry) → ((x : Entry) → IsIn xs x → IsIn es x) → map (valued t k) (map bare xs) ≡ xs
  valued-row [] f = refl
  valued-row (x ∷ xs) f =
      ap (λ z. z ∷ map (valued t k) (map bare xs)) (valued-own x (f x (in-first x xs x refl)))
      ∙ ap (λ zs. x ∷ zs) (valued-row xs (λ y i. f y (in-later x xs y i)))

  pub record From (row : List Entry) (x : Entry) : Type 0 where
    pub event : Entry
    pub inside : IsIn row event
    pub is : x ≡ valued t k event

  pub from : (row : List Entry) (x : Entry) → IsIn (map (valued t k) row) x → From row x
  from [] x i = absurd (in-none x i)
  from (e ∷ row) x i = elim (in-case (valued t k e) (map (valued t k) row) x i) [
    | inl q ↦ record { event = e; inside = in-first e row e refl; is = q }
    | inr j ↦ let f = from row x j in record { event = f.event; inside = in-later e row f.event f.inside; is = f.is }
  ]

  put-inside : (xs : List Entry) → ((x : Entry) → IsIn xs x → IsIn es x) → (x : Entry) → IsIn (put es xs) x → IsIn es x
  put-inside xs f x i = go (in-put es xs x i)
    where
      go : IsIn xs x ⊎ ((w : Entry) × (IsIn xs w × (IsIn es x × ArePair x w))) → IsIn es x
      go (inl j) = f x j
      go (inr (w, (j, (m, p)))) = m

  order-own : (row : List Entry) → ((x : Entry) → IsIn row x → IsIn (events_of t) x) → order_along t k row ≡ put es (map (valued t k) row)
  order-own row f =
      ap (λ xs. map (valued t k) (with_loads xs row)) (sym (bare-events t c))
      ∙ (ap (λ xs. map (valued t k) (with_loads (map bare es) xs)) (sym (bare-row row f))
      ∙ (ap (map (valued t k)) (loads-bare es (map (valued t k) row)) ∙ valued-row (put es (map (valued t k) row)) (put-inside (map (valued t k) row) inside)))
    where
      inside : (x : Entry) → IsIn (map (valued t k) row) x → IsIn es x
      inside x i = let m = from row x i in subst (IsIn es) (sym m.is) (own m.event (f m.event m.inside)).inside

  -- ---- the row

  module _ (Before : Entry → Entry → Type 0)
      (known : (x y : Entry) → IsIn es x → IsIn es y → Before x y → must_precede model k (bare x) (bare y) ≡ true) where
    toward-known : (x y : Entry) → IsIn es x → IsIn es y → Toward es Before x y → comes_toward model t k (bare x) (bare y) ≡ true
    toward-known x y i j (inl b) = or-first (must_precede model k (bare x) (bare y)) _ (known x y i j b)
    toward-known x y i j (inr (r, (l, (p, b)))) =
        or-second (must_precede model k (bare x) (bare y)) _
        (any-in (λ q. are_parts q (bare y) && must_precede model k (bare x) q) (events_of t) (bare r) (own-in model t k o r l)
        (and-of (are_parts (bare r) (bare y)) _ (pair-parts r y p) (known x r i l b)))

    forward-own : (xs : List Entry) → ((x : Entry) → IsIn xs x → IsIn es x)
        → GoesForward (λ x y. comes_toward model t k x y ≡ true) (map bare xs) → GoesForward (Toward es Before) xs
    forward-own [] f g = tt
    forward-own (x ∷ xs) f g = (
      (λ y i b. g.0 (bare y) (in-map bare xs y i) (toward-known y x (f y (in-later x xs y i)) (f x (in-first x xs x refl)) b)),
      forward-own xs (λ y i. f y (in-later x xs y i)) g.1,
    )

    kept : (a : IsAllowed t c) (keep : CanBeKept t c Before) (row : List Entry) → IsLinearExtension model t k row → IsKeptIn t c Before (order_along t k row)
    kept a keep row r =
        subst (IsKeptIn t c Before) (sym (order-own row (λ x i. (r.inside x i).0)))
        (in-order t c (sound t c a.candidate) a Before keep (map (valued t k) row) (record {
          inside = inside;
          no_load = λ x i. no_load x (from row x i);
          single = once-back bare (map (valued t k) row) (subst Once (sym same) r.once);
          forward = forward-own (map (valued t k) row) inside (subst (GoesForward (λ x y. comes_toward model t k x y ≡ true)) (sym same) r.forward);
        }) (λ x i n. subst (IsIn (map (valued t k) row)) (valued-own x i)
        (in-map (valued t k) row (bare x) (r.whole (bare x) (own-in model t k o x i) (kind-load (bare x) n)))))
      where
        same : map bare (map (valued t k) row) ≡ row
        same = bare-row row (λ x i. (r.inside x i).0)

        inside : (x : Entry) → IsIn (map (valued t k) row) x → IsIn es x
        inside x i = let m = from row x i in subst (IsIn es) (sym m.is) (own m.event (r.inside m.event m.inside).0).inside

        no_load : (x : Entry) → From row x → x.kind ≡ LR → ⊥
        no_load x m q = load-kind m.event (r.inside m.event m.inside).1 (sym (ap (λ (z : Entry). z.kind) m.is) ∙ q)

-- ---- the law

left-true : (t : Litmus) (c : Candidate) (claim : Claim) (order : List Entry) → LeaveTheSame t order c
    → truth_of (registers_left t c) (words_left t c) claim ≡ true → truth_of (final_registers t order) (final_words t order) claim ≡ true
left-true t c claim order s h =
    subst (λ rs. truth_of rs (final_words t order) claim ≡ true) s.registers
    (subst (λ ws. truth_of (registers_left t c) ws claim ≡ true) s.memory h)

pub row-is-met : (model : Model) (t : Litmus) (k : Known) (o : IsOpen model t k) → NoneBetween t k
    → (claim : Claim) → NamesExist (length t.programs) (length t.words) claim → allows t k claim true ≡ true
    → (row : List Entry) → IsLinearExtension model t k row → IsMet model t claim (order_along t k row)
row-is-met Tso t k o none claim names h row r =
    let a = is-allowed Tso t k o none in
    let c = own_candidate Tso t k o in
    let m = kept Tso t k o (Goes c) (goes-known Tso t k o) a (goes-kept t c (sound t c a.candidate) a) row r in
    record { execution = m.execution; holds = left-true t c claim (order_along t k row) m.state (claim-exact Tso t k o claim names true h) }
row-is-met Sequential t k o none claim names h row r =
    let q = is-allowed Sequential t k o none in
    let c = own_candidate Sequential t k o in
    let a = tso-allows t c q in
    let m = kept Sequential t k o (Step c) step-known a (step-kept t c (sound t c a.candidate) q) row r in
    record {
      execution = record { execution = m.execution; keeps = keeps c (order_along t k row) m.forward };
      holds = left-true t c claim (order_along t k row) m.state (claim-exact Sequential t k o claim names true h);
    }
  where
    step-known : (x y : Entry) → IsIn (own_events Sequential t k o) x → IsIn (own_events Sequential t k o) y
        → Step (own_candidate Sequential t k o) x y → must_precede Sequential k (bare x) (bare y) ≡ true
    step-known x y i j (inl b) = or-first (is_before (bare x) (bare y)) _ b
    step-known x y i j (inr g) = goes-known Sequential t k o x y i j g
