-- The copies that count while the bus is held.
use Rattle.snoop_bus.proofs.Vocabulary.{cases_eq, get_or-set_same, get_or-set_other, length-set, length-map, get_or-map, map-set_same}
use Rattle.snoop_bus.proofs.Vocabulary.{arith, ◌≡◌, ◌≢◌, ◌⊎◌, inl, inr, ℕ, ◌<◌, ◌%◌, false, ◌&&◌, nat_eq, Some, List, [], length, map, refl}
use Rattle.snoop_bus.proofs.Vocabulary.{sym, ap, ◌∙◌, slice_index_or, if◌then◌else◌, Line, Contents, contents, copy_of, Sets, set_at}
use Rattle.snoop_bus.proofs.Vocabulary.{in_set, copy_in, copy_at, cache_of, ways_of, with_copy, with_counted_copy}
use Rattle.cache_set.proofs.Numbers.{differ, itself}
use Rattle.snoop_bus.proofs.CurrentWords.{copy_at-set}
use Rattle.snoop_bus.proofs.UseLemmas.{ways-set_cache}

-- what is found in a core's sets once the copy counts
pub copy_in-with : (sets : Sets) (line k : ℕ) (copy : Line) → 0 < length sets →
    copy_in (in_set line (with_copy line copy) sets) k ≡ (if nat_eq k line then Some copy else copy_in sets k)
copy_in-with sets line k copy some =
    let size : length (in_set line (with_copy line copy) sets) ≡ length sets = length-set sets (line % length sets) (with_copy line copy (set_at sets line)) in
    rw size (by_set size (cases_eq (k % length sets) (line % length sets)))
  where
    by_set : length (in_set line (with_copy line copy) sets) ≡ length sets → (k % length sets ≡ line % length sets) ⊎ (k % length sets ≢ line % length sets) →
        copy_of (slice_index_or (in_set line (with_copy line copy) sets) (k % length sets) (contents [] 1)) k
        ≡ (if nat_eq k line then Some copy else copy_in sets k)
    by_set size (inl p) =
        let within : line % length sets < length sets = omega arith in
        rw (p, get_or-set_same sets (line % length sets) (with_copy line copy (set_at sets line)) (contents [] 1) within) refl
    by_set size (inr p) =
        let other : nat_eq k line ≡ false = differ k line (λ e. p (ap (λ (n : ℕ). n % length sets) e)) in
        rw (other, get_or-set_other sets (line % length sets) (k % length sets) (with_copy line copy (set_at sets line)) (contents [] 1) p) refl

pub counting-at : (caches : List Sets) (core line : ℕ) (copy : Line) (i k : ℕ) → core < length caches → 0 < length (cache_of caches core) →
    copy_at (with_counted_copy core line copy caches) i k ≡ (if nat_eq i core && nat_eq k line then Some copy else copy_at caches i k)
counting-at caches core line copy i k within some =
    copy_at-set caches core (in_set line (with_copy line copy) (cache_of caches core)) i k within ∙ by_core (cases_eq i core)
  where
    by_core : (i ≡ core) ⊎ (i ≢ core) → (if nat_eq i core then copy_in (in_set line (with_copy line copy) (cache_of caches core)) k else copy_at caches i k)
        ≡ (if nat_eq i core && nat_eq k line then Some copy else copy_at caches i k)
    by_core (inl p) = rw (p, itself core) (copy_in-with (cache_of caches core) line k copy some)
    by_core (inr p) = let e : nat_eq i core ≡ false = differ i core p in rw e refl

pub ways-counting : (caches : List Sets) (core line : ℕ) (copy : Line) → ways_of (with_counted_copy core line copy caches) ≡ ways_of caches
ways-counting caches core line copy = ways-set_cache caches core (in_set line (with_copy line copy) (cache_of caches core))
    (map-set_same (λ (s : Contents). s.ways) (cache_of caches core) (line % length (cache_of caches core))
    (with_copy line copy (set_at (cache_of caches core) line)) (contents [] 1) refl)

-- as many sets, where each has the room that it had
pub same_sets : (c0 c1 : List Sets) (core : ℕ) → ways_of c1 ≡ ways_of c0 → 0 < length (cache_of c0 core) → 0 < length (cache_of c1 core)
same_sets c0 c1 core same some =
    let sized : length (cache_of c1 core) ≡ length (cache_of c0 core) =
    sym (sets c1) ∙ ap (λ (l : List (List ℕ)). length (slice_index_or l core [])) same ∙ sets c0 in
    rw sized some
  where
    sets : (c : List Sets) → length (slice_index_or (ways_of c) core []) ≡ length (cache_of c core)
    sets c = ap length (get_or-map (map (λ (s : Contents). s.ways)) c core []) ∙ length-map (cache_of c core) (λ (s : Contents). s.ways)
