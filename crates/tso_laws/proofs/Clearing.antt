-- Registers with 0 in those that are dead, and what is written and read of them.
use Rattle.tso_laws.proofs.EagerVocabulary.{◌≡◌, ℕ, zero, suc, List, [], ◌∷◌, Bool, true, false, slice_set, slice_index, if◌then◌else◌, ap}
use Rattle.tso_laws.proofs.EagerVocabulary.{refl, index_of, value_of, Operand, Number, Held, unless_read, cleared}
use Rattle.std.specs.Prelude.{◌==◌}
use Rattle.std.proofs.Common.{◌∙◌}
use Rattle.tso_terms.specs.Thread.{updated, combined}
use Rattle.tso_laws.specs.Dead.{unless_used}
use Rattle.basic_laws.specs.Types.{Update, Replace, Negate, CompareExchange, Eax}
use Rattle.tso_terms.specs.declared.action.Update.TheVariants.{Combine}

pub clear-none : (ds : List Bool) → cleared ds [] ≡ []
clear-none [] = refl
clear-none (d ∷ ds) = refl

pub clear-twice : (ds : List Bool) (rs : List ℕ) → cleared ds (cleared ds rs) ≡ cleared ds rs
clear-twice [] rs = refl
clear-twice (d ∷ ds) [] = refl
clear-twice (d ∷ ds) (r ∷ rs) = rw (once d, clear-twice ds rs) refl
  where
    once : (d : Bool) → (if d then 0 else (if d then 0 else r)) ≡ (if d then 0 else r)
    once true = refl
    once false = refl

-- what is written where the register is dead before
pub write-dead : (ds : List Bool) (rs ss : List ℕ) (i v : ℕ) → cleared (slice_set ds i true) rs ≡ cleared (slice_set ds i true) ss
    → cleared ds (slice_set rs i v) ≡ cleared ds (slice_set ss i v)
write-dead [] rs ss i v h = ap (λ z. slice_set z i v) h
write-dead (d ∷ ds) [] [] i v h = refl
write-dead (d ∷ ds) [] (s ∷ ss) zero v h = absurd (let z : ⊥ = cc in z)
write-dead (d ∷ ds) [] (s ∷ ss) (suc i) v h = absurd (let z : ⊥ = cc in z)
write-dead (d ∷ ds) (r ∷ rs) [] zero v h = absurd (let z : ⊥ = cc in z)
write-dead (d ∷ ds) (r ∷ rs) [] (suc i) v h = absurd (let z : ⊥ = cc in z)
write-dead (d ∷ ds) (r ∷ rs) (s ∷ ss) zero v h =
    let q : cleared ds rs ≡ cleared ds ss = cc in
    ap (λ z. (if d then 0 else v) ∷ z) q
write-dead (d ∷ ds) (r ∷ rs) (s ∷ ss) (suc i) v h =
    let p : (if d then 0 else r) ≡ (if d then 0 else s) = cc in
    let q : cleared (slice_set ds i true) rs ≡ cleared (slice_set ds i true) ss = cc in
    rw (p, write-dead ds rs ss i v q) refl

-- what is written at all
pub write-any : (ds : List Bool) (rs ss : List ℕ) (i v : ℕ) → cleared ds rs ≡ cleared ds ss → cleared ds (slice_set rs i v) ≡ cleared ds (slice_set ss i v)
write-any [] rs ss i v h = ap (λ z. slice_set z i v) h
write-any (d ∷ ds) [] [] i v h = refl
write-any (d ∷ ds) [] (s ∷ ss) i v h = absurd (let z : ⊥ = cc in z)
write-any (d ∷ ds) (r ∷ rs) [] i v h = absurd (let z : ⊥ = cc in z)
write-any (d ∷ ds) (r ∷ rs) (s ∷ ss) zero v h =
    let q : cleared ds rs ≡ cleared ds ss = cc in
    ap (λ z. (if d then 0 else v) ∷ z) q
write-any (d ∷ ds) (r ∷ rs) (s ∷ ss) (suc i) v h =
    let p : (if d then 0 else r) ≡ (if d then 0 else s) = cc in
    let q : cleared ds rs ≡ cleared ds ss = cc in
    rw (p, write-any ds rs ss i v q) refl

-- a register that isn't dead has the same value in both
pub read-live : (ds : List Bool) (rs ss : List ℕ) (i : ℕ) → cleared (slice_set ds i false) rs ≡ cleared (slice_set ds i false) ss
    → (slice_index rs i ≡ slice_index ss i) × (cleared ds rs ≡ cleared ds ss)
read-live [] rs ss i h = (ap (λ z. slice_index z i) h, h)
read-live (d ∷ ds) [] [] i h = (refl, refl)
read-live (d ∷ ds) [] (s ∷ ss) zero h = absurd (let z : ⊥ = cc in z)
read-live (d ∷ ds) [] (s ∷ ss) (suc i) h = absurd (let z : ⊥ = cc in z)
read-live (d ∷ ds) (r ∷ rs) [] zero h = absurd (let z : ⊥ = cc in z)
read-live (d ∷ ds) (r ∷ rs) [] (suc i) h = absurd (let z : ⊥ = cc in z)
read-live (d ∷ ds) (r ∷ rs) (s ∷ ss) zero h =
    let p : r ≡ s = cc in
    let q : cleared ds rs ≡ cleared ds ss = cc in
    (p, rw (p, q) refl)
read-live (d ∷ ds) (r ∷ rs) (s ∷ ss) (suc i) h =
    let p : (if d then 0 else r) ≡ (if d then 0 else s) = cc in
    let q : cleared (slice_set ds i false) rs ≡ cleared (slice_set ds i false) ss = cc in
    let w = read-live ds rs ss i q in
    (w.0, rw (p, w.1) refl)

-- so has an operand
pub operand-live : (o : Operand) (ds : List Bool) (rs ss : List ℕ) → cleared (unless_read o ds) rs ≡ cleared (unless_read o ds) ss
    → (value_of rs o ≡ value_of ss o) × (cleared ds rs ≡ cleared ds ss)
operand-live (Number value) ds rs ss h = (refl, h)
operand-live (Held reg) ds rs ss h = read-live ds rs ss (index_of reg) h

-- so has what an update makes of a word
pub update-live : (u : Update) (ds : List Bool) (rs ss : List ℕ) → cleared (unless_used u ds) rs ≡ cleared (unless_used u ds) ss
    → ((word : ℕ) → updated u rs word ≡ updated u ss word) × (cleared ds rs ≡ cleared ds ss)
update-live (Replace operand) ds rs ss h = let w = operand-live operand ds rs ss h in (λ word. w.0, w.1)
update-live (Combine operator operand) ds rs ss h = let w = operand-live operand ds rs ss h in (λ word. ap (λ v. combined operator word v) w.0, w.1)
update-live Negate ds rs ss h = (λ word. refl, h)
update-live (CompareExchange reg) ds rs ss h =
    let a = operand-live (Held Eax) (unless_read (Held reg) ds) rs ss h in
    let b = operand-live (Held reg) ds rs ss a.1 in (
      λ word. ap (λ e. if word == e then value_of rs (Held reg) else word) a.0
          ∙ ap (λ v. if word == value_of ss (Held Eax) then v else word) b.0,
      b.1,
    )
