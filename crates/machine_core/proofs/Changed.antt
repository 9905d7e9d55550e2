-- The entries of a list, the sets of a cache, and the caches, once one of them was changed.
use Rattle.machine_core.proofs.Vocabulary.{◌≡◌, ℕ, List, sym, ◌≢◌, length, inl, inr, [], subst, ◌<◌, ◌≤◌, ◌%◌, slice_set, slice_index_or}
use Rattle.machine_core.proofs.Vocabulary.{get_or-set_same, get_or-set_other, TagSets, tags_at, at_line, sets_of, at_core, lt-or, decide}
use Rattle.machine_core.proofs.Vocabulary.{get_or_past, length-set, TagSet, tag_set}

-- what holds of an entry: it is the changed one, or past the end, or as it was
pub slot : {A : Type 0} (P : A → Type 0) (xs : List A) (place i : ℕ) (new none : A)
    → (i ≡ place → place < length xs → P new)
    → (i ≡ place → length xs ≤ place → P none)
    → (i ≢ place → P (slice_index_or xs i none)) → P (slice_index_or (slice_set xs place new) i none)
slot P xs place i new none here past beside = elim (decide i place) [
  | inl q ↦ subst (λ k. P (slice_index_or (slice_set xs place new) k none)) (sym q) (elim (lt-or (length xs) place) [
    | inl l ↦ subst P (sym (get_or-set_same xs place new none l)) (here q l)
    | inr far ↦ subst P (sym (get_or_past (slice_set xs place new) place none (subst (λ n. n ≤ place) (sym (length-set xs place new)) far))) (past q far)
  ])
  | inr n ↦ subst P (sym (get_or-set_other xs place i new none n)) (beside n)
]

-- of the set of a line, once the one of this line was changed
pub set-at : (P : TagSet → Type 0) (line other : ℕ) (change : TagSet → TagSet) (sets : TagSets)
    → (other % length sets ≡ line % length sets → line % length sets < length sets → P (change (tags_at sets line)))
    → (other % length sets ≡ line % length sets → length sets ≤ line % length sets → P (tag_set [] 1))
    → (other % length sets ≢ line % length sets → P (tags_at sets other))
    → P (tags_at (at_line line change sets) other)
set-at P line other change sets here past beside =
    subst (λ n. P (slice_index_or (at_line line change sets) (other % n) (tag_set [] 1)))
    (sym (length-set sets (line % length sets) (change (tags_at sets line))))
    (slot P sets (line % length sets) (other % length sets) (change (tags_at sets line)) (tag_set [] 1) here past beside)

-- of a core's sets, once those of this core were changed
pub core-at : (P : TagSets → Type 0) (core k : ℕ) (change : TagSets → TagSets) (caches : List TagSets)
    → (k ≡ core → core < length caches → P (change (sets_of caches core)))
    → (k ≡ core → length caches ≤ core → P [])
    → (k ≢ core → P (sets_of caches k)) → P (sets_of (at_core core change caches) k)
core-at P core k change caches here past beside = slot P caches core k (change (sets_of caches core)) [] here past beside
