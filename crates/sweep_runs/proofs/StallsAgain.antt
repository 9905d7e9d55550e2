-- What stalled stalls again, until the machine changes.
use Rattle.sweep_runs.proofs.Vocabulary.{◌≡◌, ◌<◌, ◌≤◌, ◌⊎◌, inl, inr, ℕ, List, length, Option, Some, None, sym, ap, subst, ◌∙◌, arith}
use Rattle.sweep_runs.proofs.Vocabulary.{slice_index_or, slice_set, Choice, Running}
use Rattle.std.proofs.lemmas.Bool.Decides.{eqb_tells}
use Rattle.std.proofs.lemmas.List.{get_or-set_same, get_or-set_other, get_or_past, length-set}
use Rattle.basic_laws.specs.Types.{Step, Drain, Stall}
use Rattle.sweep_runs.specs.declared.stalling.Stalling.{Stalling}
use Rattle.sweep_runs.specs.inner.Stalling.{place_of_choice, reason_at, noted_at, Stalls, AllStall}

within-or : (n k : ℕ) → (k < n) ⊎ (n ≤ k)
within-or n k = grind arith

-- once a reason is written at one place, what is found anywhere is that one there, or was found before
written : (xs : List (Option Stall)) (place k : ℕ) (why reason : Stall) → slice_index_or (slice_set xs place (Some why)) k None ≡ Some reason
    → ((place ≡ k) × (why ≡ reason)) ⊎ (slice_index_or xs k None ≡ Some reason)
written xs place k why reason q = elim (eqb_tells place k) [
  | inl p ↦
      let here : slice_index_or (slice_set xs place (Some why)) place None ≡ Some reason =
      subst (λ j. slice_index_or (slice_set xs place (Some why)) j None ≡ Some reason) (sym p.1) q in
      elim (within-or (length xs) place) [
        | inl l ↦ let same : Some why ≡ Some reason = sym (get_or-set_same xs place (Some why) None l) ∙ here in inl (p.1, (let z : why ≡ reason = cc in z))
        | inr past ↦
            let none : None ≡ Some reason =
            sym (get_or_past (slice_set xs place (Some why)) place None (subst (λ n. n ≤ place) (sym (length-set xs place (Some why))) past))
            ∙ here in
            absurd (let z : ⊥ = cc in z)
      ]
  | inr p ↦ inr (sym (get_or-set_other xs place k (Some why) None (λ e. p.1 (sym e))) ∙ q)
]

-- each choice has a place of its own
same-choice : (c d : Choice) → place_of_choice c ≡ place_of_choice d → c ≡ d
same-choice (Step a) (Step b) e = let same : a.0 ≡ b.0 = omega arith in ap (λ (n : ℕ). Step (record { 0 = n })) same
same-choice (Step a) (Drain b) e = absurd (let z : ⊥ = omega arith in z)
same-choice (Drain a) (Step b) e = absurd (let z : ⊥ = omega arith in z)
same-choice (Drain a) (Drain b) e = let same : a.0 ≡ b.0 = omega arith in ap (λ (n : ℕ). Drain (record { 0 = n })) same

-- where none is noted, none has to stall
pub none-noted : (s : Stalling) (m : Running) → ((choice : Choice) → reason_at choice s ≡ None) → AllStall s m
none-noted s m none choice reason noted = absurd (let never : None ≡ Some reason = sym (none choice) ∙ noted in let z : ⊥ = cc in z)

-- a choice that stalled is noted
pub noted-stall : (s : Stalling) (m : Running) (c : Choice) (why : Stall) → AllStall s m → Stalls m c why → AllStall (noted_at c why s) m
noted-stall s m c why all this other reason q = elim (written s.reasons (place_of_choice c) (place_of_choice other) why reason q) [
  | inl e ↦ subst (λ (d : Choice). Stalls m d reason) (same-choice c other e.0) (subst (Stalls m c) e.1 this)
  | inr before ↦ all other reason before
]
