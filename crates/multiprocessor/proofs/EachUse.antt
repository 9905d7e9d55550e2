-- What holds of each use of the caches: of none, of a load that a core's own stores answer, and of an access, whole or in its two
-- halves.
use Rattle.multiprocessor.proofs.Vocabulary.{ap, CacheUse, IsUncounted, with_use_counted, ℕ}
use Rattle.multiprocessor.proofs.Vocabulary.{List, ◌∷◌, Bool, if◌then◌else◌, list_any, writes_to, Entry, Unused, Forwarded, Caches}
use Rattle.multiprocessor.proofs.Vocabulary.{not_through, use_of, Used, ask_by, used_between, completion_by, use_by_kind, whole_by}
use Rattle.multiprocessor.proofs.Vocabulary.{MemoryAccess, Kind, [], true, false, NoAccess, R, F, LW, ◌≡◌, refl, asking_by, at_access}

module _ (P : Used → Type 0) (c : Caches) (unused : P (not_through Unused c)) (forwarded : P (not_through Forwarded c))
    (whole : (core loc : ℕ) (write : Bool) → P (whole_by c core loc write)) where
  pub each-whole : (pending commits : List Entry) → P (use_of c pending commits)
  each-whole pending [] = unused
  each-whole pending (e ∷ es) = by_kind e.kind
    where
      by_kind : (kind : Kind) → P (use_by_kind c pending e kind)
      by_kind R =
          elim (list_any (writes_to e.loc.0) pending) as (λ b.
          P (if b then not_through Forwarded c else whole_by c e.core.0 e.loc.0 false)) [
            | true ↦ forwarded
            | false ↦ whole e.core.0 e.loc.0 false
          ]
      by_kind F = unused
      by_kind LW = unused
      by_kind _ = whole e.core.0 e.loc.0 true

  pub each-use : (core : ℕ)
      → ((loc : ℕ) (write : Bool) → P (ask_by c core loc write))
      → ((loc : ℕ) → P (completion_by c core loc))
      → (before after : Bool) (what : MemoryAccess) (pending commits : List Entry)
      → P (used_between before after c core what pending commits)
  each-use core asks completes false true NoAccess pending commits = unused
  each-use core asks completes false true what pending commits = asks _ (at_access false (λ loc write. write) what)
  each-use core asks completes true false NoAccess pending commits = unused
  each-use core asks completes true false _ pending commits = completes _
  each-use core asks completes false false what pending commits = each-whole pending commits
  each-use core asks completes true true what pending commits = each-whole pending commits

-- so no choice changes the protocol's table, nor the shape of the caches
pub used-machine : (before after : Bool) (c : Caches) (core : ℕ) (what : MemoryAccess) (pending commits : List Entry)
    → ((used_between before after c core what pending commits).caches.rows ≡ c.rows)
    × ((used_between before after c core what pending commits).caches.shape ≡ c.shape)
used-machine before after c core what pending commits =
    each-use (λ u. (u.caches.rows ≡ c.rows) × (u.caches.shape ≡ c.shape)) c (refl, refl) (refl, refl)
    (λ k loc write. (refl, refl)) core (λ loc write. (refl, refl)) (λ loc. (refl, refl)) before after what pending
    commits

pub unused-uncounted : (how : CacheUse) → how ≡ Unused → IsUncounted how
unused-uncounted how e = λ core cs. ap (λ u. with_use_counted core u cs) e

-- an ask is no access yet
pub asks-uncounted : (c : Caches) (core : ℕ) (what : MemoryAccess) → IsUncounted (asking_by c core what).how
asks-uncounted c core NoAccess = λ k cs. refl
asks-uncounted c core _ = λ k cs. refl
