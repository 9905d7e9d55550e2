-- When an access may be made at once.
use Rattle.multiprocessor.proofs.Vocabulary.{◌≡◌, ◌||◌, ℕ, Bool, true, false, if◌then◌else◌, List, [], ◌∷◌, map, filter, None, Some}
use Rattle.multiprocessor.proofs.Vocabulary.{slice_get, refl, sym, ap, list_any, writes_to, NoAccess, Reads, Writes, load_access}
use Rattle.multiprocessor.proofs.Vocabulary.{locked_access, drain_access, Loc, Entry, Pending, store_of}

pub none-kept : (f : Entry → Bool) (xs : List Entry) → list_any f xs ≡ false → filter f xs ≡ []
none-kept f [] h = refl
none-kept f (x ∷ xs) h =
    elim (f x) as (λ b. (b || list_any f xs) ≡ false → (if b then x ∷ filter f xs else filter f xs) ≡ [])
    [ true ↦ (λ g. absurd (let z : ⊥ = cc in z)) | false ↦ (λ g. none-kept f xs g) ] h

-- the access that a choice makes
pub reads : (loc : Loc) (pending : List Entry) → list_any (writes_to loc.0) pending ≡ false → Reads loc ≡ load_access loc (filter (writes_to loc.0) pending)
reads loc pending h = ap (load_access loc) (sym (none-kept (writes_to loc.0) pending h))

pub forwarded : (loc : Loc) (f : Entry → Bool) (pending : List Entry) → list_any f pending ≡ true → NoAccess ≡ load_access loc (filter f pending)
forwarded loc f [] h = absurd (let z : ⊥ = cc in z)
forwarded loc f (x ∷ xs) h =
    elim (f x) as (λ b. (b || list_any f xs) ≡ true → NoAccess ≡ load_access loc (if b then x ∷ filter f xs else filter f xs))
    [ true ↦ (λ g. refl) | false ↦ (λ g. forwarded loc f xs g) ] h

pub waits : (core : ℕ) (loc : Loc) (items : List Pending) → (items ≡ [] → ⊥) → NoAccess ≡ locked_access loc (map (store_of core) items)
waits core loc [] h = absurd (h refl)
waits core loc (p ∷ ps) h = refl

pub writes-nothing : (core : ℕ) (items : List Pending) → slice_get items 0 ≡ None → drain_access (map (store_of core) items) ≡ NoAccess
writes-nothing core [] h = refl
writes-nothing core (p ∷ ps) h = (let z : ⊥ = cc in absurd z)

pub writes-oldest : (core : ℕ) (items : List Pending) (store : Pending)
    → Some store ≡ slice_get items 0
    → Writes store.loc ≡ drain_access (map (store_of core) items)
writes-oldest core [] store h = absurd (let z : ⊥ = cc in z)
writes-oldest core (p ∷ ps) store h = let e : store ≡ p = cc in ap (λ (s : Pending). Writes s.loc) e
