-- Sets of tags under accesses: each line lies in one set alone and once, none is in I, and the line that leaves a set is gone.
use Rattle.machine_core.proofs.Vocabulary.{arith, ◌≡◌, ◌≢◌, ◌<◌, ◌-◌, ◌%◌, ℕ, zero, suc, false, List, [], ◌∷◌, length, take, map, slice_get}
use Rattle.machine_core.proofs.Vocabulary.{slice_set, slice_index_or, Option, Some, None, nat_eq, if◌then◌else◌, inl, inr, refl, sym, subst}
use Rattle.machine_core.proofs.Vocabulary.{eqb_tells, eq-eqb, length-set, lookup, remove_entry, State, I, Snoop, TagSet, tag_set, tag_of}
use Rattle.machine_core.proofs.Vocabulary.{used, filled, leaving, restated, in_next, snooped, snooped_in, TagSets, tags_at, tag_in, at_line}
use Rattle.machine_core.proofs.Vocabulary.{sets_of, at_core, at_others, requested, used_by, filled_by}
use Rattle.machine_core.proofs.Changed.{slot, set-at, core-at}

-- ---- the tags of one set

-- lines in states of this kind alone
abbrev pub OfKind : (ℕ → State → Type 0) → List (ℕ × State) → Type 0
OfKind P [] = Unit {0}
OfKind P (e ∷ es) = P e.0 e.1 × OfKind P es

-- no line twice
abbrev pub Once : List (ℕ × State) → Type 0
Once [] = Unit {0}
Once (e ∷ es) = (lookup (nat_eq e.0) es ≡ None) × Once es

kind-remove : (P : ℕ → State → Type 0) (line : ℕ) (es : List (ℕ × State)) → OfKind P es → OfKind P (remove_entry (nat_eq line) es)
kind-remove P line [] h = tt
kind-remove P line (e ∷ es) h = elim (eqb_tells line e.0) [
  | inl p ↦ rw p.0 h.1
  | inr p ↦ rw p.0 (h.0, kind-remove P line es h.1)
]

kind-take : (P : ℕ → State → Type 0) (n : ℕ) (es : List (ℕ × State)) → OfKind P es → OfKind P (take n es)
kind-take P zero es h = tt
kind-take P (suc n) [] h = tt
kind-take P (suc n) (e ∷ es) h = (h.0, kind-take P n es h.1)

pub absent-remove : (line k : ℕ) (es : List (ℕ × State)) → lookup (nat_eq k) es ≡ None → lookup (nat_eq k) (remove_entry (nat_eq line) es) ≡ None
absent-remove line k [] h = refl
absent-remove line k (e ∷ es) h = elim (eqb_tells k e.0) [
  | inl p ↦ let found : Some e.1 ≡ None = rw p.0 at h in absurd (let z : ⊥ = cc in z)
  | inr p ↦
      let later : lookup (nat_eq k) es ≡ None = rw p.0 at h in
      elim (eqb_tells line e.0) [ inl q ↦ rw q.0 later | inr q ↦ rw (q.0, p.0) (absent-remove line k es later) ]
]

pub gone-remove : (line : ℕ) (es : List (ℕ × State)) → Once es → lookup (nat_eq line) (remove_entry (nat_eq line) es) ≡ None
gone-remove line [] h = refl
gone-remove line (e ∷ es) h = elim (eqb_tells line e.0) [
  | inl p ↦ rw p.0 (subst (λ k. lookup (nat_eq k) es ≡ None) (sym p.1) h.0)
  | inr p ↦ rw (p.0, p.0) (gone-remove line es h.1)
]

once-remove : (line : ℕ) (es : List (ℕ × State)) → Once es → Once (remove_entry (nat_eq line) es)
once-remove line [] h = tt
once-remove line (e ∷ es) h = elim (eqb_tells line e.0) [
  | inl p ↦ rw p.0 h.1
  | inr p ↦ rw p.0 (absent-remove line e.0 es h.0, once-remove line es h.1)
]

absent-take : (n k : ℕ) (es : List (ℕ × State)) → lookup (nat_eq k) es ≡ None → lookup (nat_eq k) (take n es) ≡ None
absent-take zero k es h = refl
absent-take (suc n) k [] h = refl
absent-take (suc n) k (e ∷ es) h = elim (eqb_tells k e.0) [
  | inl p ↦ let found : Some e.1 ≡ None = rw p.0 at h in absurd (let z : ⊥ = cc in z)
  | inr p ↦ rw p.0 (absent-take n k es (rw p.0 at h))
]

once-take : (n : ℕ) (es : List (ℕ × State)) → Once es → Once (take n es)
once-take zero es h = tt
once-take (suc n) [] h = tt
once-take (suc n) (e ∷ es) h = (absent-take n e.0 es h.0, once-take n es h.1)

-- a line in another state, where it stands
abbrev restate : ℕ → State → List (ℕ × State) → List (ℕ × State)
restate line state es = map (λ e. if nat_eq line e.0 then (e.0, state) else e) es

kind-restate : (P : ℕ → State → Type 0) (line : ℕ) (state : State) (es : List (ℕ × State))
    → ((k : ℕ) (s : State) → P k s → P k state)
    → OfKind P es
    → OfKind P (restate line state es)
kind-restate P line state [] may h = tt
kind-restate P line state (e ∷ es) may h = elim (eqb_tells line e.0) [
  | inl p ↦ rw p.0 (may e.0 e.1 h.0, kind-restate P line state es may h.1)
  | inr p ↦ rw p.0 (h.0, kind-restate P line state es may h.1)
]

absent-restate : (line k : ℕ) (state : State) (es : List (ℕ × State)) → lookup (nat_eq k) es ≡ None → lookup (nat_eq k) (restate line state es) ≡ None
absent-restate line k state [] h = refl
absent-restate line k state (e ∷ es) h = elim (eqb_tells k e.0) [
  | inl p ↦ let found : Some e.1 ≡ None = rw p.0 at h in absurd (let z : ⊥ = cc in z)
  | inr p ↦
      let later : lookup (nat_eq k) es ≡ None = rw p.0 at h in
      elim (eqb_tells line e.0) [ inl q ↦ rw (q.0, p.0) (absent-restate line k state es later) | inr q ↦ rw (q.0, p.0) (absent-restate line k state es later) ]
]

once-restate : (line : ℕ) (state : State) (es : List (ℕ × State)) → Once es → Once (restate line state es)
once-restate line state [] h = tt
once-restate line state (e ∷ es) h = elim (eqb_tells line e.0) [
  | inl p ↦ rw p.0 (absent-restate line e.0 state es h.0, once-restate line state es h.1)
  | inr p ↦ rw p.0 (absent-restate line e.0 state es h.0, once-restate line state es h.1)
]

-- the tag at a place is found by its line, and isn't among those before it
found-at : (n : ℕ) (x : ℕ × State) (es : List (ℕ × State)) → Once es → slice_get es n ≡ Some x → lookup (nat_eq x.0) es ≡ Some x.1
found-at n x [] d h = absurd (let z : ⊥ = cc in z)
found-at zero x (e ∷ es) d h = let same : e ≡ x = cc in subst (λ (y : ℕ × State). lookup (nat_eq y.0) (e ∷ es) ≡ Some y.1) same (rw (eq-eqb e.0 e.0 refl) refl)
found-at (suc n) x (e ∷ es) d h =
    let later : lookup (nat_eq x.0) es ≡ Some x.1 = found-at n x es d.1 h in
    elim (eqb_tells x.0 e.0) [
      | inl p ↦ let none : lookup (nat_eq x.0) es ≡ None = subst (λ k. lookup (nat_eq k) es ≡ None) (sym p.1) d.0 in absurd (let z : ⊥ = cc in z)
      | inr p ↦ rw p.0 later
    ]

gone-before : (n : ℕ) (x : ℕ × State) (es : List (ℕ × State)) → Once es → slice_get es n ≡ Some x → lookup (nat_eq x.0) (take n es) ≡ None
gone-before zero x es d h = refl
gone-before (suc n) x [] d h = absurd (let z : ⊥ = cc in z)
gone-before (suc n) x (e ∷ es) d h =
    let later : lookup (nat_eq x.0) es ≡ Some x.1 = found-at n x es d.1 h in
    elim (eqb_tells x.0 e.0) [
      | inl p ↦ let none : lookup (nat_eq x.0) es ≡ None = subst (λ k. lookup (nat_eq k) es ≡ None) (sym p.1) d.0 in absurd (let z : ⊥ = cc in z)
      | inr p ↦ rw p.0 (gone-before n x es d.1 h)
    ]

-- a line that is found is of the kind
kind-found : (P : ℕ → State → Type 0) (line : ℕ) (state : State) (es : List (ℕ × State)) → OfKind P es → lookup (nat_eq line) es ≡ Some state → P line state
kind-found P line state [] h q = absurd (let z : ⊥ = cc in z)
kind-found P line state (e ∷ es) h q = elim (eqb_tells line e.0) [
  | inl p ↦
      let found : Some e.1 ≡ Some state = rw p.0 at q in
      let same : e.1 ≡ state = cc in
      subst (λ k. P k state) (sym p.1) (subst (P e.0) same h.0)
  | inr p ↦ kind-found P line state es h.1 (rw p.0 at q)
]

-- ---- one set

-- lines in states of this kind alone, and no line twice
pub record IsNeat (P : ℕ → State → Type 0) (s : TagSet) : Type 0 where
  pub kind : OfKind P s.tags
  pub once : Once s.tags

used-neat : (P : ℕ → State → Type 0) (line : ℕ) (state : State) (s : TagSet) → P line state → IsNeat P s → IsNeat P (used line state s)
used-neat P line state s p h = record { kind = (p, kind-remove P line s.tags h.kind); once = (gone-remove line s.tags h.once, once-remove line s.tags h.once) }

filled-neat : (P : ℕ → State → Type 0) (line : ℕ) (state : State) (s : TagSet)
    → P line state
    → tag_of s line ≡ None
    → IsNeat P s
    → IsNeat P (filled line state s)
filled-neat P line state s p none h = record {
  kind = kind-take P s.ways ((line, state) ∷ s.tags) (p, h.kind);
  once = once-take s.ways ((line, state) ∷ s.tags) (none, h.once);
}

-- a line of the kind may be in any state but I
abbrev InAnyState : (ℕ → State → Type 0) → Type 0
InAnyState P = (line : ℕ) (state next : State) → next ≢ I → P line state → P line next

restated-neat : (P : ℕ → State → Type 0) (line : ℕ) (state : State) (s : TagSet) → InAnyState P → state ≢ I → IsNeat P s → IsNeat P (restated line state s)
restated-neat P line state s may valid h =
    record { kind = kind-restate P line state s.tags (λ k old. may k old state valid) h.kind; once = once-restate line state s.tags h.once }

snooped-neat : (P : ℕ → State → Type 0) (on : State → Snoop) (line : ℕ) (s : TagSet) → InAnyState P → IsNeat P s → IsNeat P (snooped on line s)
snooped-neat P on line s may h = by_tag (tag_of s line)
  where
    by_next : (state : State) → IsNeat P (in_next line state s)
    by_next I = record { kind = kind-remove P line s.tags h.kind; once = once-remove line s.tags h.once }
    by_next state = restated-neat P line state s may (λ q. let z : ⊥ = cc in z) h

    by_tag : (o : Option State) → IsNeat P (snooped_in on line o s)
    by_tag None = h
    by_tag (Some state) = by_next (on state).next

-- what leaves a neat set for another line was there, and is gone then
pub record HasLeft (P : ℕ → State → Type 0) (line : ℕ) (state : State) (s : TagSet) (victim : ℕ × State) : Type 0 where
  pub kind : P victim.0 victim.1
  pub before : tag_of s victim.0 ≡ Some victim.1
  pub after : tag_of (filled line state s) victim.0 ≡ None

kind-at : (P : ℕ → State → Type 0) (n : ℕ) (x : ℕ × State) (es : List (ℕ × State)) → OfKind P es → slice_get es n ≡ Some x → P x.0 x.1
kind-at P n x [] h q = absurd (let z : ⊥ = cc in z)
kind-at P zero x (e ∷ es) h q = let same : e ≡ x = cc in subst (λ (y : ℕ × State). P y.0 y.1) same h.0
kind-at P (suc n) x (e ∷ es) h q = kind-at P n x es h.1 q

has-left : (P : ℕ → State → Type 0) (line : ℕ) (state : State) (s : TagSet) (victim : ℕ × State)
    → IsNeat P s
    → tag_of s line ≡ None
    → leaving s ≡ Some victim
    → HasLeft P line state s victim
has-left P line state s victim h none leaves =
    let there = found-at (s.ways - 1) victim s.tags h.once leaves in
    record { kind = kind-at P (s.ways - 1) victim s.tags h.kind leaves; before = there; after = by_ways s.ways leaves }
  where
    other : lookup (nat_eq victim.0) s.tags ≡ Some victim.1 → nat_eq victim.0 line ≡ false
    other there = elim (eqb_tells victim.0 line) [
      | inl p ↦ let gone : lookup (nat_eq victim.0) s.tags ≡ None = subst (λ k. lookup (nat_eq k) s.tags ≡ None) (sym p.1) none in absurd (let z : ⊥ = cc in z)
      | inr p ↦ p.0
    ]

    by_ways : (ways : ℕ) → slice_get s.tags (ways - 1) ≡ Some victim → lookup (nat_eq victim.0) (take ways ((line, state) ∷ s.tags)) ≡ None
    by_ways zero q = refl
    by_ways (suc n) q =
        let place : suc n - 1 ≡ n = omega arith in
        let at : slice_get s.tags n ≡ Some victim = subst (λ k. slice_get s.tags k ≡ Some victim) place q in
        rw (other (found-at n victim s.tags h.once at)) (gone-before n victim s.tags h.once at)

-- ---- the sets of a cache

-- where there is no set
abbrev pub no_set : TagSet
no_set = tag_set [] 1

-- lines of a test that has so many, in the set in which they lie, and in states other than I
pub record Lies (lines sets index line : ℕ) (state : State) : Type 0 where
  pub within : line < lines
  pub place : line % sets ≡ index
  pub valid : state ≢ I

-- each set is neat
abbrev pub AreNeat : ℕ → TagSets → Type 0
AreNeat lines sets = (i : ℕ) → IsNeat (Lies lines (length sets) i) (slice_index_or sets i no_set)

pub none-neat : (P : ℕ → State → Type 0) → IsNeat P no_set
none-neat P = record { kind = tt; once = tt }

pub no-sets : (lines : ℕ) → AreNeat lines []
no-sets lines i = none-neat (Lies lines 0 i)

set-changed : (lines line : ℕ) (change : TagSet → TagSet) (sets : TagSets) → AreNeat lines sets
    → (IsNeat (Lies lines (length sets) (line % length sets)) (tags_at sets line)
    → IsNeat (Lies lines (length sets) (line % length sets)) (change (tags_at sets line)))
    → AreNeat lines (at_line line change sets)
set-changed lines line change sets h changed i =
    let there = line % length sets in
    let new = change (tags_at sets line) in
    subst (λ n. IsNeat (Lies lines n i) (slice_index_or (slice_set sets there new) i no_set)) (sym (length-set sets there new))
    (slot (IsNeat (Lies lines (length sets) i)) sets there i new no_set
    (λ q l. subst (λ k. IsNeat (Lies lines (length sets) k) new) (sym q) (changed (h there)))
    (λ q past. none-neat (Lies lines (length sets) i)) (λ n. h i))

-- a copy that is found is in a state other than I
pub found-valid : (lines line : ℕ) (state : State) (sets : TagSets) → AreNeat lines sets → tag_in sets line ≡ Some state → state ≢ I
found-valid lines line state sets h q =
    (kind-found (Lies lines (length sets) (line % length sets)) line state (tags_at sets line).tags (h (line % length sets)).kind q).valid

sets-used : (lines line : ℕ) (state : State) (sets : TagSets)
    → line < lines
    → state ≢ I
    → AreNeat lines sets
    → AreNeat lines (at_line line (used line state) sets)
sets-used lines line state sets l valid h =
    set-changed lines line (used line state) sets h
    (used-neat (Lies lines (length sets) (line % length sets)) line state (tags_at sets line) (record { within = l; place = refl; valid = valid }))

sets-filled : (lines line : ℕ) (state : State) (sets : TagSets)
    → line < lines
    → state ≢ I
    → tag_in sets line ≡ None
    → AreNeat lines sets
    → AreNeat lines (at_line line (filled line state) sets)
sets-filled lines line state sets l valid none h =
    set-changed lines line (filled line state) sets h
    (filled-neat (Lies lines (length sets) (line % length sets)) line state (tags_at sets line) (record { within = l; place = refl; valid = valid }) none)

sets-snooped : (lines : ℕ) (on : State → Snoop) (line : ℕ) (sets : TagSets) → AreNeat lines sets → AreNeat lines (at_line line (snooped on line) sets)
sets-snooped lines on line sets h =
    set-changed lines line (snooped on line) sets h
    (snooped-neat (Lies lines (length sets) (line % length sets)) on line (tags_at sets line)
    (λ k old next valid there. record { within = there.within; place = there.place; valid = valid }))

-- a dirty line that leaves was in the cache, and isn't then
pub record Leaves (lines line : ℕ) (state : State) (sets : TagSets) (victim : ℕ × State) : Type 0 where
  pub within : victim.0 < lines
  pub valid : victim.1 ≢ I
  pub before : tag_in sets victim.0 ≡ Some victim.1
  pub after : tag_in (at_line line (filled line state) sets) victim.0 ≡ None

pub sets-leave : (lines line : ℕ) (state : State) (sets : TagSets) (victim : ℕ × State)
    → AreNeat lines sets
    → tag_in sets line ≡ None
    → leaving (tags_at sets line) ≡ Some victim
    → Leaves lines line state sets victim
sets-leave lines line state sets victim h none leaves =
    let there = line % length sets in
    let left = has-left (Lies lines (length sets) there) line state (tags_at sets line) victim (h there) none leaves in
    let place : victim.0 % length sets ≡ there = left.kind.place in
    record {
      within = left.kind.within;
      valid = left.kind.valid;
      before = subst (λ k. tag_of (slice_index_or sets k no_set) victim.0 ≡ Some victim.1) (sym place) left.before;
      after = set-at (λ s. tag_of s victim.0 ≡ None) line victim.0 (filled line state) sets (λ q l. left.after) (λ q past. refl) (λ n. absurd (n place));
    }

-- ---- all caches

abbrev pub AllNeat : ℕ → List TagSets → Type 0
AllNeat lines caches = (core : ℕ) → AreNeat lines (sets_of caches core)

own-changed : (lines core : ℕ) (change : TagSets → TagSets) (caches : List TagSets)
    → AllNeat lines caches
    → (AreNeat lines (sets_of caches core) → AreNeat lines (change (sets_of caches core)))
    → AllNeat lines (at_core core change caches)
own-changed lines core change caches h changed k = core-at (AreNeat lines) core k change caches (λ q l. changed (h core)) (λ q past. no-sets lines) (λ n. h k)

-- of the others a change that keeps no sets as they are
each-changed : (lines : ℕ) (change : TagSets → TagSets) (caches : List TagSets)
    → ((sets : TagSets) → AreNeat lines sets → AreNeat lines (change sets))
    → AllNeat lines caches
    → AllNeat lines (map change caches)
each-changed lines change [] changed h k = no-sets lines
each-changed lines change (sets ∷ caches) changed h zero = changed sets (h 0)
each-changed lines change (sets ∷ caches) changed h (suc k) = each-changed lines change caches changed (λ j. h (suc j)) k

others-changed : (lines core : ℕ) (change : TagSets → TagSets) (caches : List TagSets)
    → ((sets : TagSets) → AreNeat lines sets → AreNeat lines (change sets))
    → AllNeat lines caches
    → AllNeat lines (at_others core change caches)
others-changed lines core change [] changed h k = no-sets lines
others-changed lines zero change (sets ∷ caches) changed h zero = h 0
others-changed lines zero change (sets ∷ caches) changed h (suc k) = each-changed lines change caches changed (λ j. h (suc j)) k
others-changed lines (suc core) change (sets ∷ caches) changed h zero = changed sets (h 0)
others-changed lines (suc core) change (sets ∷ caches) changed h (suc k) = others-changed lines core change caches changed (λ j. h (suc j)) k

-- the core's own are as they were
pub own-kept : (core : ℕ) (change : TagSets → TagSets) (caches : List TagSets) → sets_of (at_others core change caches) core ≡ sets_of caches core
own-kept core change [] = refl
own-kept zero change (sets ∷ caches) = refl
own-kept (suc core) change (sets ∷ caches) = own-kept core change caches

pub all-requested : (lines : ℕ) (on : State → Snoop) (core line : ℕ) (caches : List TagSets)
    → AllNeat lines caches
    → AllNeat lines (requested on core line caches)
all-requested lines on core line caches h = others-changed lines core (at_line line (snooped on line)) caches (sets-snooped lines on line) h

pub all-used : (lines core line : ℕ) (state : State) (caches : List TagSets)
    → line < lines
    → state ≢ I
    → AllNeat lines caches
    → AllNeat lines (used_by core line state caches)
all-used lines core line state caches l valid h =
    own-changed lines core (at_line line (used line state)) caches h (sets-used lines line state (sets_of caches core) l valid)

pub all-filled : (lines core line : ℕ) (state : State) (caches : List TagSets)
    → line < lines
    → state ≢ I
    → tag_in (sets_of caches core) line ≡ None
    → AllNeat lines caches
    → AllNeat lines (filled_by core line state caches)
all-filled lines core line state caches l valid none h =
    own-changed lines core (at_line line (filled line state)) caches h (sets-filled lines line state (sets_of caches core) l valid none)
