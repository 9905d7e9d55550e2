-- Which two states are together: no two dirty ones.
use Rattle.machine_core.proofs.Vocabulary.{◌≡◌, ◌≢◌, ℕ, true, false, None, List, length, ap, inl, inr, is_dirty, State, I, O, M, Words}
use Rattle.machine_core.proofs.Vocabulary.{state_of_copy, may_share, Sets, copy_at, AllCoherent, lt-or, IsOwner}

pub apart : (s t : State) → may_share s t ≡ true → is_dirty s ≡ true → is_dirty t ≡ true → ⊥
apart O I h a b = let z : ⊥ = cc in z
apart M I h a b = let z : ⊥ = cc in z
apart _ _ h a b = let z : ⊥ = cc in z

-- no cache has a line past memory
past : (caches : List Sets) (line i : ℕ) → copy_at caches i line ≡ None → IsOwner caches line i → ⊥
past caches line i e a = let z : is_dirty (state_of_copy (copy_at caches i line)) ≡ false = ap (λ o. is_dirty (state_of_copy o)) e in let y : ⊥ = cc in y

pub one-owner : (caches : List Sets) (memory : List Words) (line i j : ℕ)
    → AllCoherent caches memory
    → IsOwner caches line i
    → IsOwner caches line j
    → i ≢ j
    → ⊥
one-owner caches memory line i j h a b n = elim (lt-or (length memory) line) [
  | inl l ↦ apart (state_of_copy (copy_at caches i line)) (state_of_copy (copy_at caches j line)) ((h.each line l).apart i j n) a b
  | inr l ↦ past caches line i (h.within line i l) a
]
