-- Where each choice of a list takes effect, and the test has ended after them, the run uses them all.
use Rattle.found_reasons.proofs.Vocabulary.{◌≡◌, ◌<◌, suc, Bool, true, false, List, [], ◌∷◌, ◌++◌, length, inl, inr, arith, ap, ◌∙◌, refl, length-set, Litmus}
use Rattle.tso_terms.specs.FlatMachine.{State, core_of, program_of, effect_of, chosen, after_choice}
use Rattle.tso_terms.specs.Runs.{CoresExist, stall_count, is_done, has_ended, run_from}
use Rattle.tso_terms.specs.declared.choice.Choice.{Choice}
use Rattle.tso_laws.specs.Choices.{state_after, commits_of}
use Rattle.tso_laws.proofs.OrderSteps.{AllTake}
use Rattle.basic_laws.proofs.Cores.{done-at}
use Rattle.tso_laws.proofs.Work.{choice-changes, done-undone}

not-ended : (t : Litmus) (s : State) (c : Choice) → chosen c < length s.cores → stall_count (effect_of t 0 s c).outcome ≡ 0 → has_ended t s ≡ false
not-ended t s c l o = go (has_ended t s) (λ h. done-at t.programs s.cores (chosen c) h l)
  where
    go : (b : Bool) → (b ≡ true → is_done (program_of t (chosen c)) (core_of s (chosen c)) ≡ true) → b ≡ false
    go false f = refl
    go true f = absurd (let u = done-undone 0 (program_of t (chosen c)) (core_of s (chosen c)) (f refl) in
        elim (choice-changes t 0 s c) [
          | inl w ↦ (let m = w.less in let z : ⊥ = omega (arith, m, u) in z)
          | inr w ↦ (let q = w.stalled in let z : ⊥ = omega (arith, q, o) in z)
        ])

pub record Uses (t : Litmus) (s : State) (cs : List Choice) : Type 0 where
  pub ended : (run_from t 0 s cs).ended ≡ true
  pub commits : (run_from t 0 s cs).commits ≡ commits_of t 0 s cs
  pub used : (run_from t 0 s cs).used ≡ length cs
  pub stalled : (run_from t 0 s cs).stalled ≡ 0
  pub unused : (run_from t 0 s cs).unused ≡ 0

pub uses-all : (t : Litmus) (s : State) (cs : List Choice)
    → length s.cores ≡ length t.programs
    → AllTake t 0 s cs
    → has_ended t (state_after t 0 s cs) ≡ true
    → Uses t s cs
uses-all t s [] n a e = record { ended = e; commits = refl; used = refl; stalled = refl; unused = refl }
uses-all t s (c ∷ cs) n a e =
    let h = uses-all t (after_choice t 0 s c) cs (length-set s.cores (chosen c) (effect_of t 0 s c).after ∙ n) a.2 e in
    let f = not-ended t s c (let z = a.0 in omega (arith, n, z)) a.1 in
    record {
      ended = rw f h.ended;
      commits = rw f (ap (λ z. (effect_of t 0 s c).commits ++ z) h.commits);
      used = rw f (ap suc h.used);
      stalled = rw (f, a.1) (let z = h.stalled in omega (arith, z));
      unused = rw f h.unused;
    }

pub cores-exist : (t : Litmus) (s : State) (cs : List Choice) → AllTake t 0 s cs → CoresExist (length t.programs) cs
cores-exist t s [] a = tt
cores-exist t s (c ∷ cs) a = (a.0, cores-exist t (after_choice t 0 s c) cs a.2)
