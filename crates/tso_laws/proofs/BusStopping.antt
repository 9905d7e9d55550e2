-- A run stops where it ends; after the end nothing happens, and nobody holds the bus.
use Rattle.tso_laws.proofs.BusVocabulary.{◌≡◌, ◌<◌, ℕ, ◌+◌, zero, suc, List, [], ◌∷◌, ◌++◌, Bool, true, false, length, take, arith, ap, sym}
use Rattle.tso_laws.proofs.BusVocabulary.{◌∙◌, refl, inl, inr, subst, if◌then◌else◌, append_assoc, append-nil, Litmus, State, program_of}
use Rattle.tso_laws.proofs.BusVocabulary.{core_of, chosen, effect_of, start, is_done, has_ended, stall_count, NoAccess, step_access}
use Rattle.tso_laws.proofs.BusVocabulary.{drain_access, access_of, Holder, Free, HeldBy, HeldBetween, Attempt, BusState, BusRun, unheld}
use Rattle.tso_laws.proofs.BusVocabulary.{effect_on, after_on, resting_on, then_on, run_on_from, run_on, HitFits, HitsFit, Bus, Atomic}
use Rattle.tso_laws.proofs.BusVocabulary.{Split, Entry, Choice, Step, Drain, Stall, Stalled, state_on, commits_on, IsPossibleOn, EndOn}
use Rattle.tso_laws.proofs.BusVocabulary.{left_by, ChangesNothingOn, StopsAtTheEndOn, SoFarOn, PendingIsOwn, Each, each-at, cases_Bool}
use Rattle.tso_laws.proofs.BusVocabulary.{done-anywhere}
use Rattle.tso_laws.proofs.Steps.{IsStore}
use Rattle.tso_laws.proofs.Cores.{done-pending, done-next}
use Rattle.tso_laws.proofs.BusWaiting.{start-stores}
use Rattle.tso_laws.proofs.Following.{all-follow}
use Rattle.tso_laws.proofs.Effects.{Live, LiveIn, choice-does, stays-here, live-after, live-on, live-start}
use Rattle.tso_laws.proofs.BusRounds.{state-append}

-- a stall changes nothing
stall-nothing : (bus : Bus) (t : Litmus) (d : ℕ) (state : BusState) (a : Attempt)
    → LiveIn bus t d state
    → stall_count (effect_on bus t d state a).effect.outcome ≡ 1
    → ChangesNothingOn bus t d state a
stall-nothing bus t d state a live q = elim (choice-does bus t d state a live) [
  | inl m ↦ absurd (let w = m.took in omega arith)
  | inr w ↦ record { same = stays-here bus t d state a w; none = w.none }
]

-- a core that is done makes no access, and stalls
done-no-access : (t : Litmus) (depth : ℕ) (state : State) (a : Choice)
    → is_done (program_of t (chosen a)) (core_of state (chosen a)) ≡ true
    → access_of t depth state a ≡ NoAccess
done-no-access t depth state (Step c) h = ap (λ i. step_access depth i (core_of state c.0).pending) (done-next (program_of t c.0) (core_of state c.0) h)
done-no-access t depth state (Drain c) h = ap drain_access (done-pending (program_of t c.0) (core_of state c.0) h)

done-stalls : (t : Litmus) (depth : ℕ) (state : State) (a : Choice)
    → is_done (program_of t (chosen a)) (core_of state (chosen a)) ≡ true
    → stall_count (effect_of t depth state a).outcome ≡ 1
done-stalls t depth state (Step c) h = let e = done-next (program_of t c.0) (core_of state c.0) h in rw e refl
done-stalls t depth state (Drain c) h = let e = done-pending (program_of t c.0) (core_of state c.0) h in rw e refl

-- where the test has ended, nobody holds the bus
pub ended-free : (bus : Bus) (t : Litmus) (depth : ℕ) (state : State) (holder : Holder)
    → Live bus t depth state holder
    → has_ended t state ≡ true
    → holder ≡ Free
ended-free bus t depth state Free live h = refl
ended-free Atomic t depth state (HeldBy choice) live h = absurd live.holding
ended-free Atomic t depth state (HeldBetween e) live h = absurd live.holding
ended-free Split t depth state (HeldBy choice) live h =
    absurd (live.holding (done-no-access t depth state choice (done-anywhere t state (chosen choice) live.size h)))
ended-free Split t depth state (HeldBetween e) live h =
    absurd (let q = done-no-access t depth state (Step e.core) (done-anywhere t state e.core.0 live.size h) in let a = live.holding in let z : ⊥ = cc in z)

-- and a choice stalls
ended-stalls : (bus : Bus) (t : Litmus) (d : ℕ) (state : State) (holder : Holder) (a : Attempt) → Live bus t d state holder → has_ended t state ≡ true
    → stall_count (effect_on bus t d (record { flat = state; holder = holder }) a).effect.outcome ≡ 1
ended-stalls Atomic t d state holder a live h = done-stalls t d state a.choice (done-anywhere t state (chosen a.choice) live.size h)
ended-stalls Split t d state holder a live h =
    let done = done-anywhere t state (chosen a.choice) live.size h in
    rw (ended-free Split t d state holder live h, done-no-access t d state a.choice done) (done-stalls t d state a.choice done)

ended-nothing : (bus : Bus) (t : Litmus) (d : ℕ) (state : BusState) (a : Attempt)
    → LiveIn bus t d state
    → has_ended t state.flat ≡ true
    → ChangesNothingOn bus t d state a
ended-nothing bus t d state a live h = stall-nothing bus t d state a live (ended-stalls bus t d state.flat state.holder a live h)

ended-same : (bus : Bus) (t : Litmus) (d : ℕ) (state : BusState) (xs : List Attempt) → LiveIn bus t d state → has_ended t state.flat ≡ true
    → (state_on bus t d state xs ≡ state) × (commits_on bus t d state xs ≡ [])
ended-same bus t d state [] live h = (refl, refl)
ended-same bus t d state (a ∷ rest) live h =
    let w = ended-nothing bus t d state a live h in
    let r = ended-same bus t d state rest live h in (
      ap (λ z. state_on bus t d z rest) w.same ∙ r.0,
      ap (λ z. z ++ commits_on bus t d (after_on bus t d state a) rest) w.none ∙ ap (λ z. commits_on bus t d z rest) w.same ∙ r.1,
    )

-- ---- runs

-- a run's end is a moment at which it has ended, or the end of its choices
pub run-ended : (bus : Bus) (t : Litmus) (d : ℕ) (state : BusState) (xs : List Attempt)
    → (run_on_from bus t d state xs).run.ended ≡ has_ended t (run_on_from bus t d state xs).run.state
run-ended bus t d state [] = refl
run-ended bus t d state (a ∷ rest) = elim (cases_Bool (has_ended t state.flat)) [
  | inl q ↦ rw q (sym q)
  | inr q ↦ rw q (run-ended bus t d (after_on bus t d state a) rest)
]

record Begins (bus : Bus) (t : Litmus) (d : ℕ) (state : BusState) (xs : List Attempt) (r : BusRun) : Type 0 where
  now : left_by r ≡ state_on bus t d state (take r.run.used xs)
  committed : r.run.commits ≡ commits_on bus t d state (take r.run.used xs)
  count : r.run.used + r.run.unused ≡ length xs

run-begins : (bus : Bus) (t : Litmus) (d : ℕ) (state : BusState) (xs : List Attempt) → Begins bus t d state xs (run_on_from bus t d state xs)
run-begins bus t d state [] = record { now = refl; committed = refl; count = refl }
run-begins bus t d state (a ∷ rest) = let h = run-begins bus t d (after_on bus t d state a) rest in elim (cases_Bool (has_ended t state.flat)) [
  | inl is ↦ rw is (record { now = refl; committed = refl; count = omega arith })
  | inr is ↦
      rw is (record {
        now = h.now;
        committed = ap (λ z. (effect_on bus t d state a).effect.commits ++ z) h.committed;
        count = let n = h.count in omega arith;
      })
]

record Stops (bus : Bus) (t : Litmus) (d : ℕ) (state : BusState) (xs : List Attempt) (r : BusRun) : Type 0 where
  first : (n : ℕ) → n < r.run.used → has_ended t (state_on bus t d state (take n xs)).flat ≡ false
  over : 0 < r.run.unused → r.run.ended ≡ true
  all_state : left_by r ≡ state_on bus t d state xs
  all_commits : r.run.commits ≡ commits_on bus t d state xs

run-stops : (bus : Bus) (t : Litmus) (d : ℕ) (state : BusState) (xs : List Attempt)
    → LiveIn bus t d state
    → Stops bus t d state xs (run_on_from bus t d state xs)
run-stops bus t d state [] live = record { first = λ m l. absurd (omega arith); over = λ l. absurd (omega arith); all_state = refl; all_commits = refl }
run-stops bus t d state (a ∷ rest) live = go (has_ended t state.flat) refl (run-stops bus t d (after_on bus t d state a) rest (live-after bus t d state a live))
  where
    until : (r : BusRun) (m : ℕ)
        → has_ended t state.flat ≡ false
        → ((j : ℕ)
        → j < r.run.used
        → has_ended t (state_on bus t d (after_on bus t d state a) (take j rest)).flat ≡ false)
        → m < suc r.run.used
        → has_ended t (state_on bus t d state (take m (a ∷ rest))).flat ≡ false
    until r zero q f l = q
    until r (suc m) q f l = f m (omega arith)

    go : (b : Bool) → has_ended t state.flat ≡ b → Stops bus t d (after_on bus t d state a) rest (run_on_from bus t d (after_on bus t d state a) rest)
        → Stops bus t d state (a ∷ rest)
        (if b
        then resting_on true state (suc (length rest))
        else then_on (effect_on bus t d state a) (run_on_from bus t d (after_on bus t d state a) rest))
    go true q h = let s = ended-same bus t d state (a ∷ rest) live q in record {
      first = λ m l. absurd (omega arith);
      over = λ l. refl;
      all_state = sym s.0;
      all_commits = sym s.1;
    }
    go false q h = record {
      first = λ m l. until (run_on_from bus t d (after_on bus t d state a) rest) m q h.first l;
      over = h.over;
      all_state = h.all_state;
      all_commits = ap (λ z. (effect_on bus t d state a).effect.commits ++ z) h.all_commits;
    }

pub stops-at-end : (bus : Bus) (t : Litmus) (d : ℕ) (attempts : List Attempt) → StopsAtTheEndOn bus t d attempts (run_on bus t d attempts)
stops-at-end bus t d attempts =
    let b = run-begins bus t d (unheld (start t)) attempts in
    let s = run-stops bus t d (unheld (start t)) attempts (live-start bus t d) in
    record {
      count = b.count;
      ended = run-ended bus t d (unheld (start t)) attempts;
      first = s.first;
      over = s.over;
      used_state = b.now;
      used_commits = b.committed;
      all_state = s.all_state;
      all_commits = s.all_commits;
    }

run-live : (bus : Bus) (t : Litmus) (d : ℕ) (attempts : List Attempt) → LiveIn bus t d (left_by (run_on bus t d attempts))
run-live bus t d attempts =
    subst (LiveIn bus t d) (sym (stops-at-end bus t d attempts).all_state) (live-on bus t d (unheld (start t)) attempts (live-start bus t d))

end-is : (bus : Bus) (t : Litmus) (d : ℕ) (attempts : List Attempt) → EndOn bus t d attempts → has_ended t (run_on bus t d attempts).run.state ≡ true
end-is bus t d attempts e = sym (run-ended bus t d (unheld (start t)) attempts) ∙ e

-- a further choice at the end of a run
pub end-nothing : (bus : Bus) (t : Litmus) (d : ℕ) (attempts : List Attempt) (a : Attempt)
    → EndOn bus t d attempts
    → ChangesNothingOn bus t d (left_by (run_on bus t d attempts)) a
end-nothing bus t d attempts a e = ended-nothing bus t d (left_by (run_on bus t d attempts)) a (run-live bus t d attempts) (end-is bus t d attempts e)

pub end-free : (bus : Bus) (t : Litmus) (d : ℕ) (attempts : List Attempt) → EndOn bus t d attempts → (run_on bus t d attempts).holder ≡ Free
end-free bus t d attempts e =
    ended-free bus t d (run_on bus t d attempts).run.state (run_on bus t d attempts).holder (run-live bus t d attempts) (end-is bus t d attempts e)

-- ---- states that choices lead to

commits-append : (bus : Bus) (t : Litmus) (d : ℕ) (state : BusState) (xs ys : List Attempt)
    → commits_on bus t d state (xs ++ ys)
    ≡ commits_on bus t d state xs ++ commits_on bus t d (state_on bus t d state xs) ys
commits-append bus t d state [] ys = refl
commits-append bus t d state (x ∷ xs) ys =
    ap (λ z. (effect_on bus t d state x).effect.commits ++ z) (commits-append bus t d (after_on bus t d state x) xs ys)
    ∙ sym (append_assoc (effect_on bus t d state x).effect.commits _ _)

fit-append : (bus : Bus) (t : Litmus) (d : ℕ) (state : BusState) (xs ys : List Attempt)
    → HitsFit bus t d state xs
    → HitsFit bus t d (state_on bus t d state xs) ys
    → HitsFit bus t d state (xs ++ ys)
fit-append bus t d state [] ys h k = k
fit-append bus t d state (x ∷ xs) ys h k = (h.0, fit-append bus t d (after_on bus t d state x) xs ys h.1 k)

pub possible-first : (bus : Bus) (t : Litmus) (d : ℕ) → IsPossibleOn bus t d [] (unheld (start t))
possible-first bus t d = record { attempts = []; fit = tt; commits_are = refl; state_is = refl }

pub possible-next : (bus : Bus) (t : Litmus) (d : ℕ) (commits : List Entry) (state : BusState) (a : Attempt)
    → IsPossibleOn bus t d commits state
    → HitFits t d state.flat a state.holder
    → IsPossibleOn bus t d (commits ++ (effect_on bus t d state a).effect.commits) (after_on bus t d state a)
possible-next bus t d commits state a p fit = record {
  attempts = p.attempts ++ a ∷ [];
  fit = fit-append bus t d (unheld (start t)) p.attempts (a ∷ []) p.fit (rw p.state_is (fit, tt));
  commits_are =
      commits-append bus t d (unheld (start t)) p.attempts (a ∷ [])
      ∙ ap (λ z. z ++ commits_on bus t d (state_on bus t d (unheld (start t)) p.attempts) (a ∷ [])) p.commits_are
      ∙ ap (λ z. commits ++ commits_on bus t d z (a ∷ [])) p.state_is ∙ ap (λ z. commits ++ z) (append-nil (effect_on bus t d state a).effect.commits);
  state_is = state-append bus t d (unheld (start t)) p.attempts (a ∷ []) ∙ ap (λ z. after_on bus t d z a) p.state_is;
}

pub possible-runs : (bus : Bus) (t : Litmus) (d : ℕ) (attempts : List Attempt)
    → HitsFit bus t d (unheld (start t)) attempts
    → IsPossibleOn bus t d (run_on bus t d attempts).run.commits (left_by (run_on bus t d attempts))
possible-runs bus t d attempts fit =
    let s = stops-at-end bus t d attempts in
    record { attempts = attempts; fit = fit; commits_are = sym s.all_commits; state_is = sym s.all_state }

possible-live : (bus : Bus) (t : Litmus) (d : ℕ) (commits : List Entry) (state : BusState) → IsPossibleOn bus t d commits state → LiveIn bus t d state
possible-live bus t d commits state p = subst (λ z. LiveIn bus t d z) p.state_is (live-on bus t d (unheld (start t)) p.attempts (live-start bus t d))

pub possible-so-far : (bus : Bus) (t : Litmus) (d : ℕ) (commits : List Entry) (state : BusState)
    → IsPossibleOn bus t d commits state
    → SoFarOn bus t d commits state
possible-so-far bus t d commits state p =
    let f = all-follow bus t d (unheld (start t)) p.attempts (start-stores t) tt p.fit in
    rw (← p.state_is, ← p.commits_are) (record {
      flat_commits = _;
      possible = record { choices = f.choices; commits_are = refl; state_is = f.now };
      together = sym f.committed;
      pairs = f.to_come.paired;
      holder = f.holds;
    })

pub possible-stall : (bus : Bus) (t : Litmus) (d : ℕ) (commits : List Entry) (state : BusState) (a : Attempt) (why : Stall) → IsPossibleOn bus t d commits state
    → (effect_on bus t d state a).effect.outcome ≡ Stalled why → ChangesNothingOn bus t d state a
possible-stall bus t d commits state a why p q = stall-nothing bus t d state a (possible-live bus t d commits state p) (ap stall_count q)

pub possible-free : (bus : Bus) (t : Litmus) (d : ℕ) (commits : List Entry) (state : BusState)
    → IsPossibleOn bus t d commits state
    → has_ended t state.flat ≡ true
    → state.holder ≡ Free
possible-free bus t d commits state p h = ended-free bus t d state.flat state.holder (possible-live bus t d commits state p) h

-- what is pending are stores of their core
pub possible-own : (bus : Bus) (t : Litmus) (d : ℕ) (commits : List Entry) (state : BusState) → IsPossibleOn bus t d commits state → PendingIsOwn state.flat
possible-own bus t d commits state p core place e q =
    let f = all-follow bus t d (unheld (start t)) p.attempts (start-stores t) tt p.fit in
    let own : Each (IsStore core) (core_of state.flat core).pending =
    subst (λ z. Each (IsStore core) (core_of z.flat core).pending) p.state_is (f.stores core) in
    let s = each-at (IsStore core) (core_of state.flat core).pending place e own q in
    record { kind = s.kind; mine = s.mine }
