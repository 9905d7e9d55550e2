-- Accesses, by the state of the core's own copy.
use Rattle.machine_core.proofs.Vocabulary.{◌≡◌, ◌↔◌, ℕ, Bool, true, false, List, Option, Some, None, refl, sym, ap, ◌∙◌, is_some, State}
use Rattle.machine_core.proofs.Vocabulary.{Table, TagSets, Accessed, hits, tag_at, next_in_place, awaited_as, request_for, whole_in}
use Rattle.machine_core.proofs.Vocabulary.{whole_access, asked_at_once, awaiting}
use Rattle.protocol_tables.specs.declared.requests.Transient.{Transient}
use Rattle.protocol_tables.specs.declared.requests.Transient.TheVariants.{IsD}
use Rattle.machine_core.specs.Hits.{IsHit}

pub access-told : (t : Table) (write : Bool) (core line : ℕ) (caches : List TagSets)
    → IsHit (whole_access t write core line caches) ↔ (hits t core line write caches ≡ true)
unfolding awaiting
access-told t write core line caches = by_next (tag_at core line caches) (next_in_place t write (tag_at core line caches))
  where
    not_hit : (x : Transient) → IsHit (asked_at_once t (request_for write) core line x caches) → ⊥
    not_hit IsD h = let z : ⊥ = cc in z
    not_hit _ h = let z : ⊥ = cc in z

    by_next : (copy next : Option State) → IsHit (whole_in t write core line caches copy next) ↔ (is_some next ≡ true)
    by_next copy None = ((λ h. absurd (not_hit (awaited_as write copy) h)), (λ h. absurd (let z : ⊥ = cc in z)))
    by_next copy (Some next) = ((λ h. refl), (λ h. refl))

-- the same of an access that is this one in another form
pub told-as : (a b : Accessed) (P : Type 0) → a ≡ b → IsHit a ↔ P → IsHit b ↔ P
told-as a b P e told = (
  (
      λ h. told.0 (ap (λ (z : Accessed). z.report.access.kind) e ∙ h)),
  (λ p. sym (ap (λ (z : Accessed). z.report.access.kind) e) ∙ told.1 p),
)

pub not-both : (b : Bool) → b ≡ false → b ≡ true → ⊥
not-both b f t = let z : ⊥ = cc in z
