-- The sets of one core's cache: what a change of one set leaves of the others and of their room, and a cache that is empty.
use Rattle.cache_set.proofs.Vocabulary.{arith, ◌≡◌, ◌≤◌, ℕ, zero, suc, [], length, map, None, inl, inr, refl, ap, ◌∙◌, ◌<◌, ◌⊎◌, slice_set}
use Rattle.cache_set.proofs.Vocabulary.{◌%◌, slice_index_or, replicate, length-map, get_or_default, Contents, contents, copy_of, Sets}
use Rattle.cache_set.proofs.Vocabulary.{in_set, get_or-map, map-set_same, AtHome, emptied}
use Rattle.std.proofs.lemmas.List.{length-replicate}

pub ways-set : (sets : Sets) (i : ℕ) (set new : Contents)
    → set ≡ slice_index_or sets i set
    → new.ways ≡ set.ways
    → map (λ s. s.ways) (slice_set sets i new) ≡ map (λ s. s.ways) sets
ways-set sets i set new at same = map-set_same (λ (s : Contents). s.ways) sets i new set (same ∙ ap (λ (s : Contents). s.ways) at)

-- the set in which the line lies was changed
pub set-in_set : (sets : Sets) (line at : ℕ) (old new : Contents) (change : Contents → Contents)
    → at ≡ line % length sets
    → at < length sets
    → old ≡ slice_index_or sets at old
    → new ≡ change old →
    slice_set sets at new ≡ in_set line change sets
set-in_set sets line at old new change home within is to =
    let found : old ≡ slice_index_or sets at (contents [] 1) = is ∙ get_or_default sets at old (contents [] 1) within in
    rw (← home) (ap (λ (s : Contents). slice_set sets at s) (to ∙ ap change found))

-- An empty cache.

pub replicate-at : {A : Type 0} (n i : ℕ) (x d : A) → (slice_index_or (replicate n x) i d ≡ x) ⊎ (slice_index_or (replicate n x) i d ≡ d)
replicate-at zero i x d = inr refl
replicate-at (suc n) zero x d = inl refl
replicate-at (suc n) (suc i) x d = replicate-at n i x d

-- where all sets are empty, each line lies in its own set
pub new-home : (sets : Sets) (n ways : ℕ) → 1 ≤ n → sets ≡ replicate n (contents [] ways) → (0 < length sets) × AtHome sets
new-home sets n ways some is =
    let as_many : length sets ≡ n = ap length is ∙ length-replicate n (contents [] ways) in
    let there : 0 < length sets = omega arith in
    (there, λ i line within other. by i line (replicate-at n i (contents [] ways) (contents [] 1)))
  where
    by : (i line : ℕ)
        → (slice_index_or (replicate n (contents [] ways)) i (contents [] 1) ≡ contents [] ways)
        ⊎ (slice_index_or (replicate n (contents [] ways)) i (contents [] 1) ≡ contents [] 1)
        → copy_of (slice_index_or sets i (contents [] 1)) line ≡ None
    by i line (inl same) = ap (λ s. copy_of (slice_index_or s i (contents [] 1)) line) is ∙ ap (λ s. copy_of s line) same
    by i line (inr same) = ap (λ s. copy_of (slice_index_or s i (contents [] 1)) line) is ∙ ap (λ s. copy_of s line) same

-- and so where every line has left
pub home-emptied : (sets : Sets) → 0 < length sets → (0 < length (map emptied sets)) × AtHome (map emptied sets)
home-emptied sets some = ((rw (length-map sets emptied) some), λ i line within other. ap (λ s. copy_of s line) (get_or-map emptied sets i (contents [] 1)))
