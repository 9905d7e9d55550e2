-- How far each core has come in the front of an order, and which entries come late.
use Rattle.order_breaches.proofs.Vocabulary.{◌≡◌, ◌<◌, ◌≤◌, ℕ, ◌+◌, max, List, [], ◌∷◌, ◌++◌, length, Some, slice_get, slice_index}
use Rattle.order_breaches.proofs.Vocabulary.{slice_set, take, filter, Bool, true, false, not, ◌&&◌, ◌==◌, nat_lt, cond, if◌then◌else◌}
use Rattle.order_breaches.proofs.Vocabulary.{arith, ap, sym, ◌∙◌, ◌⊎◌, inl, inr, subst, refl, cases_eq, cases_Bool, eq-eqb, eqb-true}
use Rattle.order_breaches.proofs.Vocabulary.{ne_eqb, and_from, and_parts, and_left, and_right, not_from_false, not_from_true, not-true}
use Rattle.order_breaches.proofs.Vocabulary.{lt-ltb, ltb-true, ltb-false, cases_lt, get_or-set_same, get_or-set_other, take_more}
use Rattle.order_breaches.proofs.Vocabulary.{slice_get_within, get_or_from_slice_get, is_before, may_be_passed, is_load, is_store, is_write}
use Rattle.order_breaches.proofs.Vocabulary.{writes_to, max-left, max-right, max-first, max-second, by-rank, rank, last_value, Entry}
use Rattle.order_breaches.proofs.Vocabulary.{must_stand_before, IsLate, reached, reached_but_for_loads, words_with, is_late}
use Rattle.order_breaches.proofs.Firsts.{same_or_below, at-place}
use Rattle.order_breaches.proofs.Finds.{last_value-append, filter-append}

-- one more than the greatest rank among those of the first `at` entries that count
pub record IsMark (order : List Entry) (at : ℕ) (counts : Entry → Bool) (mark : ℕ) : Type 0 where
  pub above : (k : ℕ) (e : Entry) → k < at → slice_get order k ≡ Some e → counts e ≡ true → rank e < mark
  pub tight : (mark ≡ 0) ⊎ ((k : ℕ) × (e : Entry) × (k < at) × (slice_get order k ≡ Some e) × (counts e ≡ true) × (rank e + 1 ≡ mark))

abbrev pub of_core : ℕ → Entry → Bool
of_core c e = e.core.0 == c

abbrev pub past_loads : ℕ → Entry → Bool
past_loads c e = (e.core.0 == c) && not (is_load e)

abbrev pub AreMarks : List Entry → ℕ → (ℕ → Entry → Bool) → List ℕ → Type 0
AreMarks order at counts marks = (c : ℕ) → c < length marks → IsMark order at (counts c) (slice_index marks c)

pub marks-none : (order : List Entry) (counts : ℕ → Entry → Bool) (marks : List ℕ) → ((c : ℕ) → slice_index marks c ≡ 0) → AreMarks order 0 counts marks
marks-none order counts marks zeros c l = record { above = λ k e m f g. absurd (omega arith); tight = inl (zeros c) }

mark-more : (order : List Entry) (at : ℕ) (counts : Entry → Bool) (m : ℕ) (x : Entry)
    → slice_get order at ≡ Some x
    → counts x ≡ true
    → IsMark order at counts m
    → IsMark order (at + 1) counts (max m (rank x + 1))
mark-more order at counts m x here c mark = record {
  above = λ k e l f g. elim (same_or_below k at l) [
    | inl q ↦ let p = at-place order at k x e here f q in let r = ap rank p in let n = max-right m (rank x + 1) in omega arith
    | inr b ↦ let r = mark.above k e b f g in let n = max-left m (rank x + 1) in omega arith
  ];
  tight = elim (cases_lt m (rank x + 1)) [
    | inl l ↦ inr (at, x, (let l : at < at + 1 = omega arith in l), here, c, sym (max-second m (rank x + 1) (omega arith)))
    | inr l ↦ elim mark.tight [
      | inl z ↦ inl (max-first m (rank x + 1) l ∙ z)
      | inr t ↦ inr (t.0, t.1, (let l = t.2 in omega arith), t.3, t.4, t.5 ∙ sym (max-first m (rank x + 1) l))
    ]
  ];
}

mark-same : (order : List Entry) (at : ℕ) (counts : Entry → Bool) (m : ℕ) (x : Entry)
    → slice_get order at ≡ Some x
    → counts x ≡ false
    → IsMark order at counts m
    → IsMark order (at + 1) counts m
mark-same order at counts m x here c mark = record {
  above = λ k e l f g. elim (same_or_below k at l) [
    | inl q ↦
        let p = at-place order at k x e here f q in
        let d : counts e ≡ false = subst (λ z. counts z ≡ false) (sym p) c in absurd (let z : ⊥ = cc in z)
    | inr b ↦ mark.above k e b f g
  ];
  tight = elim mark.tight [
    | inl z ↦ inl z
    | inr t ↦ inr (t.0, t.1, (let l = t.2 in omega arith), t.3, t.4, t.5)
  ];
}

marks-reached : (order : List Entry) (at : ℕ) (counts : ℕ → Entry → Bool) (marks : List ℕ) (x : Entry)
    → slice_get order at ≡ Some x
    → x.core.0 < length marks
    → counts x.core.0 x ≡ true
    → ((c : ℕ) → (x.core.0 ≡ c → ⊥) → counts c x ≡ false)
    → length (reached marks x) ≡ length marks
    → AreMarks order at counts marks
    → AreMarks order (at + 1) counts (reached marks x)
marks-reached order at counts marks x here within own others size are c l = elim (cases_eq c x.core.0) [
  | inl q ↦
      let e : slice_index (reached marks x) c ≡ max (slice_index marks c) (rank x + 1) =
      ap (λ n. slice_index (reached marks x) n) q
      ∙ get_or-set_same marks x.core.0 (max (slice_index marks x.core.0) (rank x + 1)) 0 within
      ∙ ap (λ n. max (slice_index marks n) (rank x + 1)) (sym q) in
      subst (λ m. IsMark order (at + 1) (counts c) m) (sym e)
      (mark-more order at (counts c) (slice_index marks c) x here (subst (λ n. counts n x ≡ true) (sym q) own) (are c (omega arith)))
  | inr n ↦
      subst (λ m. IsMark order (at + 1) (counts c) m) (sym (get_or-set_other marks x.core.0 c (max (slice_index marks x.core.0) (rank x + 1)) 0 n))
      (mark-same order at (counts c) (slice_index marks c) x here (others c (λ q. n (sym q))) (are c (omega arith)))
]

pub all-reached : (order : List Entry) (at : ℕ) (marks : List ℕ) (x : Entry)
    → slice_get order at ≡ Some x
    → x.core.0 < length marks
    → length (reached marks x) ≡ length marks
    → AreMarks order at of_core marks → AreMarks order (at + 1) of_core (reached marks x)
all-reached order at marks x here within size are =
    marks-reached order at of_core marks x here within (eq-eqb x.core.0 x.core.0 refl) (λ c n. ne_eqb x.core.0 c n) size are

pub all-settled : (order : List Entry) (at : ℕ) (marks : List ℕ) (x : Entry)
    → slice_get order at ≡ Some x
    → x.core.0 < length marks
    → length (reached marks x) ≡ length marks
    → AreMarks order at past_loads marks → AreMarks order (at + 1) past_loads (reached_but_for_loads marks x)
all-settled order at marks x here within size are = elim (cases_Bool (is_load x)) [
  | inl load ↦
      subst (λ m. AreMarks order (at + 1) past_loads m) (sym (ap (λ b. if b then marks else reached marks x) load))
      (λ c l.
      mark-same order at (past_loads c) (slice_index marks c) x here
      (and_right (x.core.0 == c) (not (is_load x)) (not_from_true (is_load x) load)) (are c l))
  | inr isnt ↦
      subst (λ m. AreMarks order (at + 1) past_loads m) (sym (ap (λ b. if b then marks else reached marks x) isnt))
      (marks-reached order at past_loads marks x here within
      (and_from (x.core.0 == x.core.0) (not (is_load x)) (eq-eqb x.core.0 x.core.0 refl) (not_from_false (is_load x) isnt))
      (λ c n. and_left (x.core.0 == c) (not (is_load x)) (ne_eqb x.core.0 c n)) size are)
]

-- which entries are late
pub record MustStand (x e : Entry) : Type 0 where
  pub core : x.core.0 ≡ e.core.0
  pub sooner : rank x < rank e
  pub kept : is_store x ≡ true → is_load e ≡ false

kept-of : (s l : Bool) → not (s && l) ≡ true → s ≡ true → l ≡ false
kept-of true l h e = not-true l h
kept-of false l h e = absurd (let z : ⊥ = cc in z)

of-kept : (s l : Bool) → (s ≡ true → l ≡ false) → not (s && l) ≡ true
of-kept true l h = not_from_false l (h refl)
of-kept false l h = refl

pub must-parts : (x e : Entry) → must_stand_before x e ≡ true → MustStand x e
must-parts x e h =
    let p = and_parts (is_before x e) (not (may_be_passed x e)) h in
    let q = and_parts (x.core.0 == e.core.0) (nat_lt (rank x) (rank e)) (sym (by-rank x e) ∙ p.0) in
    record { core = eqb-true x.core.0 e.core.0 q.0; sooner = ltb-true (rank x) (rank e) q.1; kept = kept-of (is_store x) (is_load e) p.1 }

pub must-from : (x e : Entry) → MustStand x e → must_stand_before x e ≡ true
must-from x e m =
    and_from (is_before x e) (not (may_be_passed x e))
    (by-rank x e ∙ and_from (x.core.0 == e.core.0) (nat_lt (rank x) (rank e)) (eq-eqb x.core.0 e.core.0 m.core) (lt-ltb (rank x) (rank e) m.sooner))
    (of-kept (is_store x) (is_load e) m.kept)

late-by : (order : List Entry) (at : ℕ) (counts : Entry → Bool) (m : ℕ) (x : Entry) → IsMark order at counts m
    → ((e : Entry) → counts e ≡ true → rank x < rank e → MustStand x e) → ((e : Entry) → MustStand x e → counts e ≡ true)
    → (b : Bool) → nat_lt (rank x + 1) m ≡ b → (b ≡ true → IsLate order at x) × (b ≡ false → IsLate order at x → ⊥)
late-by order at counts m x mark gives takes b t = (
  λ q.
      let l : rank x + 1 < m = ltb-true (rank x + 1) m (t ∙ q) in elim mark.tight [
        | inl z ↦ absurd (omega arith)
        | inr r ↦ let s = r.5 in (r.0, r.1, r.3, record { sooner = r.2; swapped = must-from x r.1 (gives r.1 r.4 (omega arith)) })
      ],
  λ q late.
      let l : m ≤ rank x + 1 = ltb-false (rank x + 1) m (t ∙ q) in
      let o = late.3 in
      let s = must-parts x late.1 o.swapped in
      let a = mark.above late.0 late.1 o.sooner late.2 (takes late.1 s) in
      let p = s.sooner in absurd (omega arith),
)

store-is-no-load : (x : Entry) → is_store x ≡ false → (b : Bool) → is_store x ≡ true → b ≡ false
store-is-no-load x n b h = absurd (let z : ⊥ = cc in z)

pub late-tells : (order : List Entry) (at : ℕ) (all others : List ℕ) (x : Entry)
    → AreMarks order at of_core all
    → AreMarks order at past_loads others
    → x.core.0 < length all
    → x.core.0 < length others
    → (is_late all others x ≡ true → IsLate order at x) × (is_late all others x ≡ false → IsLate order at x → ⊥)
late-tells order at all others x a o l m = elim (cases_Bool (is_store x)) [
  | inl store ↦
      late-by order at (past_loads x.core.0) (slice_index others x.core.0) x (o x.core.0 m)
      (λ e c r. let p = and_parts (e.core.0 == x.core.0) (not (is_load e)) c in
      record { core = sym (eqb-true e.core.0 x.core.0 p.0); sooner = r; kept = λ _. not-true (is_load e) p.1 })
      (λ e s. and_from (e.core.0 == x.core.0) (not (is_load e)) (eq-eqb e.core.0 x.core.0 (sym s.core)) (not_from_false (is_load e) (s.kept store)))
      (is_late all others x) (sym (ap (λ b. nat_lt (rank x + 1) (if b then slice_index others x.core.0 else slice_index all x.core.0)) store))
  | inr isnt ↦
      late-by order at (of_core x.core.0) (slice_index all x.core.0) x (a x.core.0 l)
      (λ e c r. record { core = sym (eqb-true e.core.0 x.core.0 c); sooner = r; kept = store-is-no-load x isnt (is_load e) })
      (λ e s. eq-eqb e.core.0 x.core.0 (sym s.core))
      (is_late all others x) (sym (ap (λ b. nat_lt (rank x + 1) (if b then slice_index others x.core.0 else slice_index all x.core.0)) isnt))
]

-- the words that the front of an order leaves
abbrev pub AreWords : List Entry → ℕ → List ℕ → List ℕ → Type 0
AreWords order at first words = (loc : ℕ) → slice_index words loc ≡ last_value (filter (writes_to loc) (take at order)) (slice_index first loc)

last-more : (order : List Entry) (at loc : ℕ) (word : ℕ) (x : Entry) → slice_get order at ≡ Some x
    → last_value (filter (writes_to loc) (take (at + 1) order)) word
    ≡ (if writes_to loc x then x.value else last_value (filter (writes_to loc) (take at order)) word)
last-more order at loc word x here =
    ap (λ z. last_value (filter (writes_to loc) z) word)
    (take_more order at x (slice_get_within order at x here)
    ∙ ap (λ y. take at order ++ y ∷ []) (get_or_from_slice_get order at x x here))
    ∙ ap (λ z. last_value z word) (filter-append (writes_to loc) (take at order) (x ∷ []))
    ∙ last_value-append (filter (writes_to loc) (take at order)) (filter (writes_to loc) (x ∷ [])) word
    ∙ one (writes_to loc x) (last_value (filter (writes_to loc) (take at order)) word)
  where
    one : (b : Bool) (w : ℕ) → last_value (cond b (x ∷ []) []) w ≡ (if b then x.value else w)
    one true w = refl
    one false w = refl

pub words-written : (order : List Entry) (at : ℕ) (first words : List ℕ) (x : Entry)
    → slice_get order at ≡ Some x
    → (is_write x ≡ true → x.loc.0 < length words)
    → AreWords order at first words → AreWords order (at + 1) first (words_with words x)
words-written order at first words x here within are loc = elim (cases_Bool (is_write x)) [
  | inr isnt ↦
      ap (λ b. slice_index (if b then slice_set words x.loc.0 x.value else words) loc) isnt ∙ are loc
      ∙ sym (last-more order at loc (slice_index first loc) x here
      ∙ ap (λ b. if b then x.value else last_value (filter (writes_to loc) (take at order)) (slice_index first loc))
      (and_left (is_write x) (x.loc.0 == loc) isnt))
  | inl write ↦ elim (cases_eq loc x.loc.0) [
    | inl q ↦
        ap (λ b. slice_index (if b then slice_set words x.loc.0 x.value else words) loc) write
        ∙ ap (λ n. slice_index (slice_set words x.loc.0 x.value) n) q ∙ get_or-set_same words x.loc.0 x.value 0 (within write)
        ∙ sym (last-more order at loc (slice_index first loc) x here
        ∙ ap (λ b. if b then x.value else last_value (filter (writes_to loc) (take at order)) (slice_index first loc))
        (and_from (is_write x) (x.loc.0 == loc) write (eq-eqb x.loc.0 loc (sym q))))
    | inr n ↦
        ap (λ b. slice_index (if b then slice_set words x.loc.0 x.value else words) loc) write
        ∙ get_or-set_other words x.loc.0 loc x.value 0 n ∙ are loc
        ∙ sym (last-more order at loc (slice_index first loc) x here
        ∙ ap (λ b. if b then x.value else last_value (filter (writes_to loc) (take at order)) (slice_index first loc))
        (and_right (is_write x) (x.loc.0 == loc) (ne_eqb x.loc.0 loc (λ q. n (sym q)))))
  ]
]
