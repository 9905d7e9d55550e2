-- The newest store to a location, found on one walk from the oldest on.
use Rattle.std.proofs.Common.{◌≡◌, ℕ, List, [], ◌∷◌, ◌++◌, fold, filter, map, ◌==◌, true, false, if◌then◌else◌, Option, None, Some, Bor, refl, sym}
use Rattle.std.proofs.lemmas.List.{map-append}
use Rattle.std.proofs.lemmas.List.Sums.{fold-append}
use Rattle.std.specs.Option.{option_map}
use Rattle.std.specs.List.{last_or}
use Rattle.store_buffer.specs.inner.Newest.{newest_for, newer}
use Rattle.store_buffer.specs.declared.Pending.{Pending}

fold-newer : (loc : ℕ) (o : Option Pending) (items : List Pending)
    → fold (newer loc) (option_map (λ p. p.value) o) items ≡ option_map (λ p. p.value) (last_or o (filter (λ p. p.loc.0 == loc) items))
fold-newer loc o [] = refl
fold-newer loc o (p ∷ ps) =
    elim (p.loc.0 == loc) as (λ b. fold (newer loc) (if b then Some p.value else option_map (λ p. p.value) o) ps
    ≡ option_map (λ p. p.value) (last_or o (if b then p ∷ filter (λ p. p.loc.0 == loc) ps else filter (λ p. p.loc.0 == loc) ps)))
    [ true ↦ fold-newer loc (Some p) ps | false ↦ fold-newer loc o ps ]

pub newest_for-fold : (loc : ℕ) (items : List Pending) → fold (newer loc) None items ≡ newest_for loc items
newest_for-fold loc items = fold-newer loc None items

-- a store to the location is newer than those found before it
pub newer-found : (loc : ℕ) (newest : Option ℕ) (before : List (Bor Pending)) (p : Bor Pending)
    → newest ≡ fold (newer loc) None (map (λ q. q.now) before)
    → (p.now.loc.0 == loc) ≡ true
    → Some p.now.value ≡ fold (newer loc) None (map (λ q. q.now) (before ++ p ∷ []))
newer-found loc newest before p so_far is =
    sym (rw (map-append (λ q. q.now) before (p ∷ []), fold-append (newer loc) None (map (λ q. q.now) before) (p.now ∷ []), is) refl)
