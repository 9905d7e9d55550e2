-- A run stops where it ends, and nothing happens after the end.
use Rattle.tso_laws.proofs.Vocabulary.{◌≡◌, ◌<◌, ℕ, zero, suc, List, [], ◌∷◌, ◌++◌, Bool, true, false, length, take, arith, ap, sym, ◌∙◌}
use Rattle.tso_laws.proofs.Vocabulary.{refl, inl, inr, if◌then◌else◌, Litmus, State, program_of, core_of, chosen, effect_of, after_choice}
use Rattle.tso_laws.proofs.Vocabulary.{start, has_ended, Run, stall_count, resting, then_run, run_from, run, Choice, Stall, Stalled}
use Rattle.tso_laws.proofs.Vocabulary.{state_after, commits_of, ChangesNothing, StopsAtTheEnd, done-anywhere, length-starts}
use Rattle.tso_laws.proofs.Work.{stays-same, Stays, choice-changes, run-ended, done-undone}
use Rattle.tso_laws.proofs.Rounds.{size-kept, size-after}
use Rattle.tso_laws.proofs.Beginnings.{run-begins}

stays-nothing : (t : Litmus) (d : ℕ) (state : State) (c : Choice) → Stays (core_of state (chosen c)) (effect_of t d state c) → ChangesNothing t d state c
stays-nothing t d state c w = record { same = stays-same t d state c w; none = w.none }

pub stall-nothing : (t : Litmus) (d : ℕ) (state : State) (c : Choice) (why : Stall) → (effect_of t d state c).outcome ≡ Stalled why → ChangesNothing t d state c
stall-nothing t d state c why q = elim (choice-changes t d state c) [
  | inl w ↦ absurd (let m = w.took in let n : stall_count (effect_of t d state c).outcome ≡ 1 = rw q refl in let z : ⊥ = omega arith in z)
  | inr w ↦ stays-nothing t d state c w
]

ended-choice : (t : Litmus) (d : ℕ) (state : State) (c : Choice)
    → length state.cores ≡ length t.programs
    → has_ended t state ≡ true
    → Stays (core_of state (chosen c)) (effect_of t d state c)
ended-choice t d state c n h = elim (choice-changes t d state c) [
  | inl w ↦
      absurd (let m =
      w.less in
      let u =
      done-undone d (program_of t (chosen c)) (core_of state (chosen c)) (done-anywhere t state (chosen c) n h) in
      let z : ⊥ = omega arith in
      z)
  | inr w ↦ w
]

-- after the end nothing is committed and nothing changes
pub ended-same : (t : Litmus) (d : ℕ) (state : State) (cs : List Choice) → length state.cores ≡ length t.programs → has_ended t state ≡ true
    → (state_after t d state cs ≡ state) × (commits_of t d state cs ≡ [])
ended-same t d state [] n h = (refl, refl)
ended-same t d state (c ∷ cs) n h =
    let w = ended-choice t d state c n h in
    let s = stays-same t d state c w in
    let r = ended-same t d state cs n h in
    (ap (λ z. state_after t d z cs) s ∙ r.0, ap (λ z. z ++ commits_of t d (after_choice t d state c) cs) w.none ∙ ap (λ z. commits_of t d z cs) s ∙ r.1)

pub record Stops (t : Litmus) (d : ℕ) (state : State) (cs : List Choice) (r : Run) : Type 0 where
  pub first : (n : ℕ) → n < r.used → has_ended t (state_after t d state (take n cs)) ≡ false
  pub over : 0 < r.unused → r.ended ≡ true
  pub all_state : r.state ≡ state_after t d state cs
  pub all_commits : r.commits ≡ commits_of t d state cs

run-stops : (t : Litmus) (d : ℕ) (state : State) (cs : List Choice) → length state.cores ≡ length t.programs → Stops t d state cs (run_from t d state cs)
run-stops t d state [] n = record { first = λ m l. absurd (omega arith); over = λ l. absurd (omega arith); all_state = refl; all_commits = refl }
run-stops t d state (c ∷ cs) n = go (has_ended t state) refl (run-stops t d (after_choice t d state c) cs (size-kept t d state c ∙ n))
  where
    until : (r : Run) (m : ℕ)
        → has_ended t state ≡ false
        → ((j : ℕ) → j < r.used → has_ended t (state_after t d (after_choice t d state c) (take j cs)) ≡ false)
        → m < suc r.used
        → has_ended t (state_after t d state (take m (c ∷ cs))) ≡ false
    until r zero q f l = q
    until r (suc m) q f l = f m (omega arith)

    go : (b : Bool) → has_ended t state ≡ b → Stops t d (after_choice t d state c) cs (run_from t d (after_choice t d state c) cs)
        → Stops t d state (c ∷ cs)
        (if b
        then resting true state (suc (length cs))
        else then_run (effect_of t d state c) (run_from t d (after_choice t d state c) cs))
    go true q h =
        let r = ended-same t d state (c ∷ cs) n q in
        record { first = λ m l. absurd (omega arith); over = λ l. refl; all_state = sym r.0; all_commits = sym r.1 }
    go false q h = record {
      first = λ m l. until (run_from t d (after_choice t d state c) cs) m q h.first l;
      over = h.over;
      all_state = h.all_state;
      all_commits = ap (λ z. (effect_of t d state c).commits ++ z) h.all_commits;
    }

start-size : (t : Litmus) → length (start t).cores ≡ length t.programs
start-size t = length-starts 0 t.programs t.registers

pub run-stops-at-end : (t : Litmus) (d : ℕ) (cs : List Choice) → StopsAtTheEnd t d cs (run t d cs)
run-stops-at-end t d cs =
    let b = run-begins t d (start t) cs in
    let s = run-stops t d (start t) cs (start-size t) in
    record {
      count = b.count;
      ended = run-ended t d (start t) cs;
      first = s.first;
      over = s.over;
      used_state = b.now;
      used_commits = b.commits;
      all_state = s.all_state;
      all_commits = s.all_commits;
    }

-- a further choice at the end of a run
pub end-nothing : (t : Litmus) (d : ℕ) (cs : List Choice) (c : Choice) → (run t d cs).ended ≡ true → ChangesNothing t d (run t d cs).state c
end-nothing t d cs c e =
    let b = run-begins t d (start t) cs in
    stays-nothing t d (run t d cs).state c (ended-choice t d (run t d cs).state c
    (ap (λ z. length z.cores) b.now ∙ size-after t d (start t) (take (run t d cs).used cs) ∙ start-size t)
    (sym (run-ended t d (start t) cs) ∙ e))
