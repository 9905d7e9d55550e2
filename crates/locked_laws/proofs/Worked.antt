-- The worked tests: not both cores have the lock, and the counter ends as 2.
use Rattle.relational_model.proofs.Vocabulary.{◌≡◌, ◌≢◌, ℕ, zero, suc, true, [], ◌∷◌, Option, Some, None, slice_index, slice_index_or}
use Rattle.relational_model.proofs.Vocabulary.{arith, refl, sym, ap, ◌∙◌, subst, entry, writes_to, Entry, LR, LW, IsIn, Candidate, Returns}
use Rattle.relational_model.proofs.Vocabulary.{is_read, events, registers_left, IsAllowed}
use Rattle.tso_terms.specs.Examples.{loc_x}
use Rattle.tso_terms.specs.Thread.{sum_of}
use Rattle.relational_model.specs.Candidates.{words_left}
use Rattle.relational_model.specs.WorkedCandidates.{two_cores}
use Rattle.locked_laws.specs.Turns.{NoTwoReadOneSource}
use Rattle.locked_laws.specs.Sums.{IsAddedTo, WordsAddUp}
use Rattle.locked_laws.specs.WorkedLocks.{lock, counter}

-- what the locked instruction of a core read
abbrev read_by : Candidate → ℕ → ℕ
read_by c core = slice_index (slice_index_or c.reads core []) 0

-- ---- the lock

module _ (c : Candidate) where
  abbrev load : ℕ → Entry
  load core = entry core 0 LR loc_x (read_by c core)

  -- each write of the test stores 1
  writes-one : (w : Entry) → IsIn (events lock c) w → writes_to 0 w ≡ true → w.value ≡ 1
  writes-one w (zero, p) h =
      let e : load 0 ≡ w = cc in
      let q : writes_to 0 (load 0) ≡ true = subst (λ x. writes_to 0 x ≡ true) (sym e) h in
      let z : ⊥ = cc in
      absurd z
  writes-one w (suc zero, p) h = let e : entry 0 0 LW loc_x 1 ≡ w = cc in sym (ap (λ (x : Entry). x.value) e)
  writes-one w (suc (suc zero), p) h =
      let e : load 1 ≡ w = cc in
      let q : writes_to 0 (load 1) ≡ true = subst (λ x. writes_to 0 x ≡ true) (sym e) h in
      let z : ⊥ = cc in
      absurd z
  writes-one w (suc (suc (suc zero)), p) h = let e : entry 1 0 LW loc_x 1 ≡ w = cc in sym (ap (λ (x : Entry). x.value) e)
  writes-one w (suc (suc (suc (suc i))), p) h = let z : ⊥ = cc in absurd z

  reads-initial : IsAllowed lock c → (r : Entry) → IsIn (events lock c) r → r.kind ≡ LR → r.loc.0 ≡ 0 → r.value ≡ 0 → c.source r ≡ None
  reads-initial a r i k l v = go (c.source r) refl (a.candidate.reads r i (reads r k))
    where
      reads : (r : Entry) → r.kind ≡ LR → is_read r ≡ true
      reads r k = grind arith

      go : (o : Option Entry) → c.source r ≡ o → Returns lock c r o → c.source r ≡ None
      go None e h = e
      go (Some w) e h =
          let one : w.value ≡ 1 = writes-one w h.0 (subst (λ n. writes_to n w ≡ true) l h.1) in
          let same : r.value ≡ w.value = h.2 in
          absurd (omega arith)

pub not-both : NoTwoReadOneSource → (c : Candidate) → IsAllowed lock c → registers_left lock c ≢ two_cores
not-both no_two c a both =
    let first : read_by c 0 ≡ 0 = cc in
    let second : read_by c 1 ≡ 0 = cc in
    let s : c.source (load c 0) ≡ None = reads-initial c a (load c 0) (0, refl) refl refl first in
    let r : c.source (load c 1) ≡ None = reads-initial c a (load c 1) (2, refl) refl refl second in
    let same : load c 0 ≡ load c 1 =
    no_two lock c 0 (load c 0) (load c 1) a (record { inside = (0, refl); kind = refl; location = refl })
    (record { inside = (2, refl); kind = refl; location = refl }) (s ∙ sym r) in
    let z : 0 ≡ 1 = ap (λ (x : Entry). x.core.0) same in
    omega (arith, z)

-- ---- the counter

module _ (c : Candidate) where
  abbrev read : ℕ → Entry
  read core = entry core 0 LR loc_x (read_by c core)

  abbrev written : ℕ → Entry
  written core = entry core 0 LW loc_x (sum_of (read_by c core) 1)

  of-additions : (w : Entry) → IsIn (events counter c) w → writes_to 0 w ≡ true → w.kind ≡ LW
  of-additions w (zero, p) h =
      let e : read 0 ≡ w = cc in
      let q : writes_to 0 (read 0) ≡ true = subst (λ x. writes_to 0 x ≡ true) (sym e) h in
      let z : ⊥ = cc in
      absurd z
  of-additions w (suc zero, p) h = let e : written 0 ≡ w = cc in sym (ap (λ (x : Entry). x.kind) e)
  of-additions w (suc (suc zero), p) h =
      let e : read 1 ≡ w = cc in
      let q : writes_to 0 (read 1) ≡ true = subst (λ x. writes_to 0 x ≡ true) (sym e) h in
      let z : ⊥ = cc in
      absurd z
  of-additions w (suc (suc (suc zero)), p) h = let e : written 1 ≡ w = cc in sym (ap (λ (x : Entry). x.kind) e)
  of-additions w (suc (suc (suc (suc i))), p) h = let z : ⊥ = cc in absurd z

  load-of : (r : Entry) → IsIn (events counter c) r → r.kind ≡ LR → r.value ≡ read_by c r.core.0
  load-of r (zero, p) k = let e : read 0 ≡ r = cc in subst (λ x. x.value ≡ read_by c x.core.0) e refl
  load-of r (suc zero, p) k = let e : written 0 ≡ r = cc in let q : LW ≡ LR = ap (λ (x : Entry). x.kind) e ∙ k in let z : ⊥ = cc in absurd z
  load-of r (suc (suc zero), p) k = let e : read 1 ≡ r = cc in subst (λ x. x.value ≡ read_by c x.core.0) e refl
  load-of r (suc (suc (suc zero)), p) k = let e : written 1 ≡ r = cc in let q : LW ≡ LR = ap (λ (x : Entry). x.kind) e ∙ k in let z : ⊥ = cc in absurd z
  load-of r (suc (suc (suc (suc i))), p) k = let z : ⊥ = cc in absurd z

  store-of : (w : Entry) → IsIn (events counter c) w → w.kind ≡ LW → w.value ≡ sum_of (read_by c w.core.0) 1
  store-of w (zero, p) k = let e : read 0 ≡ w = cc in let q : LR ≡ LW = ap (λ (x : Entry). x.kind) e ∙ k in let z : ⊥ = cc in absurd z
  store-of w (suc zero, p) k = let e : written 0 ≡ w = cc in subst (λ x. x.value ≡ sum_of (read_by c x.core.0) 1) e refl
  store-of w (suc (suc zero), p) k = let e : read 1 ≡ w = cc in let q : LR ≡ LW = ap (λ (x : Entry). x.kind) e ∙ k in let z : ⊥ = cc in absurd z
  store-of w (suc (suc (suc zero)), p) k = let e : written 1 ≡ w = cc in subst (λ x. x.value ≡ sum_of (read_by c x.core.0) 1) e refl
  store-of w (suc (suc (suc (suc i))), p) k = let z : ⊥ = cc in absurd z

  is-added-to : IsAddedTo counter c 0 (λ w. 1)
  is-added-to = record {
    locked = of-additions;
    adds = λ r w part i pair.
        store-of w i pair.write
        ∙ (ap (λ n. sum_of (read_by c n) 1) (sym pair.core) ∙ ap (λ n. sum_of n 1) (sym (load-of r part.inside pair.read)));
  }

pub counts-two : WordsAddUp → (c : Candidate) → IsAllowed counter c → words_left counter c ≡ 2 ∷ []
counts-two add_up c a =
    ap (λ n. n ∷ []) (add_up counter c 0 (λ w. 1) (written c 0) a (is-added-to c) (1, refl) refl)
