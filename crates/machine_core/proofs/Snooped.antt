-- What becomes of the states of a line in the caches where another core's request is seen, and where a line comes in.
use Rattle.machine_core.proofs.Vocabulary.{◌≡◌, ◌≢◌, ◌∙◌, ◌⊎◌, ◌%◌, ℕ, zero, suc, true, false, List, [], ◌∷◌, length, map, slice_index_or}
use Rattle.machine_core.proofs.Vocabulary.{Option, Some, None, nat_eq, if◌then◌else◌, inl, inr, refl, sym, ap, subst, get_or-set_other}
use Rattle.machine_core.proofs.Vocabulary.{eqb_tells, get_or_past, lookup, remove_entry, State, I, Snoop, tag_at, or_invalid, TagSet}
use Rattle.machine_core.proofs.Vocabulary.{tag_of, in_next, snooped, snooped_in, TagSets, tags_at, tag_in, at_line, sets_of, at_core}
use Rattle.machine_core.proofs.Vocabulary.{at_others, requested}
use Rattle.machine_core.proofs.Changed.{set-at}
use Rattle.machine_core.proofs.Victims.{Once, no_set, AreNeat, gone-remove}

-- ---- one set

-- the tags of a set once a line goes to another state where it stands
abbrev restate : ℕ → State → List (ℕ × State) → List (ℕ × State)
restate line state es = map (λ e. if nat_eq line e.0 then (e.0, state) else e) es

restated-found : (line : ℕ) (state found : State) (es : List (ℕ × State))
    → lookup (nat_eq line) es ≡ Some found
    → lookup (nat_eq line) (restate line state es) ≡ Some state
restated-found line state found [] h = absurd (let z : ⊥ = cc in z)
restated-found line state found (e ∷ es) h = elim (eqb_tells line e.0) [
  | inl p ↦ rw (p.0, p.0) refl
  | inr p ↦ let later : lookup (nat_eq line) es ≡ Some found = rw p.0 at h in rw (p.0, p.0) (restated-found line state found es later)
]

restated-other : (line other : ℕ) (state : State) (es : List (ℕ × State))
    → nat_eq other line ≡ false
    → lookup (nat_eq other) (restate line state es) ≡ lookup (nat_eq other) es
restated-other line other state [] n = refl
restated-other line other state (e ∷ es) n = elim (eqb_tells line e.0) [
  | inl p ↦ let apart : nat_eq other e.0 ≡ false = subst (λ k. nat_eq other k ≡ false) p.1 n in rw (p.0, apart) (restated-other line other state es n)
  | inr p ↦ rw p.0 (elim (eqb_tells other e.0) [
    | inl q ↦ rw q.0 refl
    | inr q ↦ rw q.0 (restated-other line other state es n)
  ])
]

removed-other : (line other : ℕ) (es : List (ℕ × State))
    → nat_eq other line ≡ false
    → lookup (nat_eq other) (remove_entry (nat_eq line) es) ≡ lookup (nat_eq other) es
removed-other line other [] n = refl
removed-other line other (e ∷ es) n = elim (eqb_tells line e.0) [
  | inl p ↦ let apart : nat_eq other e.0 ≡ false = subst (λ k. nat_eq other k ≡ false) p.1 n in rw (p.0, apart) refl
  | inr p ↦ rw p.0 (elim (eqb_tells other e.0) [
    | inl q ↦ rw q.0 refl
    | inr q ↦ rw q.0 (removed-other line other es n)
  ])
]

-- the state that a request leaves of one
abbrev pub left_of : (State → Snoop) → Option State → State
left_of on None = I
left_of on (Some state) = (on state).next

snooped-here : (on : State → Snoop) (line : ℕ) (s : TagSet) → Once s.tags → or_invalid (tag_of (snooped on line s) line) ≡ left_of on (tag_of s line)
snooped-here on line s once = by_tag (tag_of s line) refl
  where
    by_next : (next found : State) → tag_of s line ≡ Some found → or_invalid (tag_of (in_next line next s) line) ≡ next
    by_next I found q = ap or_invalid (gone-remove line s.tags once)
    by_next state found q = ap or_invalid (restated-found line state found s.tags q)

    by_tag : (o : Option State) → tag_of s line ≡ o → or_invalid (tag_of (snooped_in on line o s) line) ≡ left_of on o
    by_tag None q = ap or_invalid q
    by_tag (Some found) q = by_next (on found).next found q

snooped-beside : (on : State → Snoop) (line other : ℕ) (s : TagSet) → nat_eq other line ≡ false → tag_of (snooped on line s) other ≡ tag_of s other
snooped-beside on line other s n = by_tag (tag_of s line)
  where
    by_next : (next : State) → tag_of (in_next line next s) other ≡ tag_of s other
    by_next I = removed-other line other s.tags n
    by_next state = restated-other line other state s.tags n

    by_tag : (o : Option State) → tag_of (snooped_in on line o s) other ≡ tag_of s other
    by_tag None = refl
    by_tag (Some found) = by_next (on found).next

-- ---- the sets of a cache

-- of the set in which a line lies, once it was changed
set-here : {A : Type 0} (line : ℕ) (change : TagSet → TagSet) (sets : TagSets) (read : TagSet → A)
    → change no_set ≡ no_set
    → read (tags_at (at_line line change sets) line) ≡ read (change (tags_at sets line))
set-here line change sets read none =
    set-at (λ s. read s ≡ read (change (tags_at sets line))) line line change sets (λ q l. refl)
    (λ q past. sym (ap read (ap change (get_or_past sets (line % length sets) no_set past) ∙ none)))
    (λ n. absurd (n refl))

-- and of any set, where the change leaves another line as it is
set-beside : (line other : ℕ) (change : TagSet → TagSet) (sets : TagSets)
    → tag_of (change (tags_at sets line)) other ≡ tag_of (tags_at sets line) other
    → tag_in (at_line line change sets) other ≡ tag_in sets other
set-beside line other change sets keeps =
    set-at (λ s. tag_of s other ≡ tag_in sets other) line other change sets (λ q l. keeps ∙ ap (λ k. tag_of (slice_index_or sets k no_set) other) (sym q))
    (λ q past. sym (ap (λ s. tag_of s other) (ap (λ k. slice_index_or sets k no_set) q ∙ get_or_past sets (line % length sets) no_set past))) (λ n. refl)

-- ---- all caches

each-at : (change : TagSets → TagSets) → change [] ≡ [] → (caches : List TagSets) (i : ℕ) → sets_of (map change caches) i ≡ change (sets_of caches i)
each-at change none [] i = sym none
each-at change none (sets ∷ caches) zero = refl
each-at change none (sets ∷ caches) (suc i) = each-at change none caches i

others-at : (change : TagSets → TagSets)
    → change [] ≡ []
    → (core : ℕ) (caches : List TagSets) (i : ℕ)
    → i ≢ core
    → sets_of (at_others core change caches) i ≡ change (sets_of caches i)
others-at change none core [] i n = sym none
others-at change none zero (sets ∷ caches) zero n = absurd (n refl)
others-at change none zero (sets ∷ caches) (suc i) n = each-at change none caches i
others-at change none (suc core) (sets ∷ caches) zero n = refl
others-at change none (suc core) (sets ∷ caches) (suc i) n = others-at change none core caches i (λ q. n (ap suc q))

-- the others' sets once a core's request is seen
pub requested-at : (on : State → Snoop) (core line : ℕ) (caches : List TagSets) (i : ℕ)
    → i ≢ core
    → sets_of (requested on core line caches) i ≡ at_line line (snooped on line) (sets_of caches i)
requested-at on core line caches i n = others-at (at_line line (snooped on line)) refl core caches i n

-- the state of the line in them
pub requested-here : (lines : ℕ) (on : State → Snoop) (core line : ℕ) (caches : List TagSets) (i : ℕ)
    → AreNeat lines (sets_of caches i)
    → i ≢ core
    → or_invalid (tag_at i line (requested on core line caches)) ≡ left_of on (tag_at i line caches)
requested-here lines on core line caches i neat n =
    ap (λ sets. or_invalid (tag_in sets line)) (requested-at on core line caches i n)
    ∙ (set-here line (snooped on line) (sets_of caches i) (λ s. or_invalid (tag_of s line)) refl
    ∙ snooped-here on line (tags_at (sets_of caches i) line) (neat (line % length (sets_of caches i))).once)

-- and of any other line
pub requested-beside : (on : State → Snoop) (core line other : ℕ) (caches : List TagSets) (i : ℕ)
    → i ≢ core
    → other ≢ line
    → tag_at i other (requested on core line caches) ≡ tag_at i other caches
requested-beside on core line other caches i n apart =
    ap (λ sets. tag_in sets other) (requested-at on core line caches i n)
    ∙ set-beside line other (snooped on line) (sets_of caches i)
    (snooped-beside on line other (tags_at (sets_of caches i) line) (beside (eqb_tells other line)))
  where
    beside : (nat_eq other line ≡ true) × (other ≡ line) ⊎ (nat_eq other line ≡ false) × (other ≢ line) → nat_eq other line ≡ false
    beside (inl p) = absurd (apart p.1)
    beside (inr p) = p.0

-- where a core's own sets change, the others' don't
pub own-alone : (core : ℕ) (change : TagSets → TagSets) (caches : List TagSets) (i : ℕ) → i ≢ core → sets_of (at_core core change caches) i ≡ sets_of caches i
own-alone core change caches i n = get_or-set_other caches core i (change (sets_of caches core)) [] n
