-- What the calls of a write access rest on, and what it leaves where nobody else holds the bus.
use Rattle.snoop_bus.proofs.Vocabulary.{get_or_default, ◌≡◌, ℕ, ◌<◌, true, false, is_some, Option, Some, None, IsSome, List, [], length}
use Rattle.snoop_bus.proofs.Vocabulary.{slice_index_or, refl, sym, ap, ◌∙◌, WritesInPlace, Table, State, M, Line, AccessReport, Hierarchy}
use Rattle.snoop_bus.proofs.Vocabulary.{HeldBus, Words, Sets, copy_in, copy_at, IsReady, Acquires, KeepsWords, KeepsBeside}
use Rattle.snoop_bus.proofs.WriteLemmas.{written_m}

-- what a look at a core's own sets found
module _ (caches : List Sets) (core line : ℕ) (sets : Sets) (looked : Option Line) (within : core < length caches)
    (at : sets ≡ slice_index_or caches core sets) (is : looked ≡ copy_in sets line) where
  there : copy_at caches core line ≡ looked
  there = sym (ap (λ (s : Sets). copy_in s line) (at ∙ get_or_default caches core sets [] within)) ∙ sym is

  pub own_found : (copy : Line) → Some copy ≡ looked → copy_at caches core line ≡ Some copy
  own_found copy e = there ∙ sym e

  pub own_absent : None ≡ looked → copy_at caches core line ≡ None
  own_absent e = there ∙ sym e

pub is_present : (o : Option Line) (copy : Line) → o ≡ Some copy → IsSome o
is_present o copy e = rw e refl

-- a copy that is written in place goes to M
pub written_is : (t : Table) → WritesInPlace t.written → (s : State) → is_some (t.written s) ≡ true → t.written s ≡ Some M
written_is t law s e = by_next (t.written s) refl e
  where
    by_next : (next : Option State) → t.written s ≡ next → is_some next ≡ true → t.written s ≡ Some M
    by_next None is e1 = cc
    by_next (Some next) is e1 = is ∙ ap (λ (n : State). Some n) (written_m s next (sym (law s) ∙ is))

-- nobody holds the bus
pub is_free : (held : Option HeldBus) → is_some held ≡ false → held ≡ None
is_free None e = refl
is_free (Some h) e = cc

pub is_not_held : (held : Option HeldBus) → held ≡ None → is_some held ≡ true → ⊥
is_not_held held free e = let wrong : false ≡ true = rw free at e in cc

module _ (held : Option HeldBus) (free : held ≡ None) where
  pub ready_alone : (core line : ℕ) (h : Hierarchy) → IsReady held core line h → IsReady None core line h
  ready_alone core line h ready = rw free at ready

  pub kept_alone : (c0 c2 : List Sets) (m0 m2 : List Words) → KeepsWords c0 c2 m0 m2 → KeepsBeside held c0 c2 m0 m2
  kept_alone c0 c2 m0 m2 keeps = rw free (record { words = keeps; awaited = tt; ways = keeps.ways })

  pub acquired_alone : (t : Table) (core line : ℕ) (c0 c2 : List Sets) (m0 m2 : List Words) (words : Words) (report : AccessReport) →
      Acquires t None core line c0 c2 m0 m2 words report → Acquires t held core line c0 c2 m0 m2 words report
  acquired_alone t core line c0 c2 m0 m2 words report a = rw free a
