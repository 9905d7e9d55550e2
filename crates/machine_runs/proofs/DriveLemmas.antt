-- A machine that is driven through choices: how far it has come, and where it stops.
use Rattle.machine_runs.proofs.Vocabulary.{◌≡◌, ◌⊎◌, inl, inr, ◌+◌, ℕ, true, false, List, [], ◌∷◌, ◌++◌, length, append-nil, append_assoc}
use Rattle.machine_runs.proofs.Vocabulary.{refl, sym, ap, subst, ◌∙◌, arith, Litmus, has_ended, stall_count, Holder, Free, Attempt}
use Rattle.machine_runs.proofs.Vocabulary.{BusState, BusRun, after_on, run_on, then_on, resting_on, HitFits, HitsFit, Bus}
use Rattle.machine_runs.proofs.Vocabulary.{Choice, Entry, EndOn, left_by, Running, attempt_on}
use Rattle.machine_runs.proofs.Vocabulary.{machine_effect, machine_after, AnswerFits, Statistics, statistics_from, answers_of, bus_run_of}
use Rattle.machine_runs.proofs.Vocabulary.{HaveFittingAnswers, Drives}
use Rattle.basic_laws.specs.Types.{Outcome, Committed, Buffered, Moved, Asked, Stalled, Stall}
use Rattle.tso_laws.specs.BusLaws.{WhatHoldsSoFarOnEitherBus}
use Rattle.tso_laws.specs.inner.BusLaws.{AttemptsLeadFromStateToState, RunsOnEitherBusStopWhereTheyEnd, StallsOnEitherBusChangeNothing}
use Rattle.tso_laws.specs.BusChoices.{IsPossibleOn}
use Rattle.machine_runs.specs.inner.Observed.{Watched, next}

-- what the laws of either bus say of states and of the end
pub record Laws : Type 0 where
  pub steps : AttemptsLeadFromStateToState
  pub so_far : WhatHoldsSoFarOnEitherBus
  pub ends : RunsOnEitherBusStopWhereTheyEnd
  pub stalls : StallsOnEitherBusChangeNothing

abbrev pub IsPossible : Running → Type 0
IsPossible m = IsPossibleOn m.bus m.test m.depth m.commits m.state

-- the statistics once these choices were made
abbrev counted_of : Running → List Choice → Statistics
counted_of m choices = statistics_from m.bus m.test m.depth m.state choices m.statistics

-- the whole run is what was done so far and the run of what is left
pub record SoFar (old m : Running) (all left : List Choice) (used stalled : ℕ) : Type 0 where
  pub test : m.test ≡ old.test
  pub bus : m.bus ≡ old.bus
  pub depth : m.depth ≡ old.depth
  pub failed : m.failed ≡ false
  pub state : left_by (bus_run_of old all) ≡ left_by (bus_run_of m left)
  pub commits : old.commits ++ (bus_run_of old all).run.commits ≡ m.commits ++ (bus_run_of m left).run.commits
  pub statistics : counted_of old all ≡ counted_of m left
  pub uses : (bus_run_of old all).run.used ≡ used + (bus_run_of m left).run.used
  pub stalls : (bus_run_of old all).run.stalled ≡ stalled + (bus_run_of m left).run.stalled
  pub possible : IsPossible m
  pub answers : HaveFittingAnswers m left → HaveFittingAnswers old all

pub at-first : (m : Running) (all : List Choice) → m.failed ≡ false → IsPossible m → SoFar m m all all 0 0
at-first m all whole possible = record {
  test = refl;
  bus = refl;
  depth = refl;
  failed = whole;
  state = refl;
  commits = refl;
  statistics = refl;
  uses = omega arith;
  stalls = omega arith;
  possible = possible;
  answers = λ fit. fit;
}

-- whatever an observer and a machine become along what is left, the first ones become along all
pub record WatchedSoFar {O : Type 0} (makes : O → Running → ℕ → Choice → O → Type 0) (first o : O) (old m : Running)
    (all left : List Choice) (used : ℕ) : Type 0 where
  pub on : (last : O) (end : Running) → Watched makes o m (used + 1) left last end → Watched makes first old 1 all last end

pub watched-more : {O : Type 0} (makes : O → Running → ℕ → Choice → O → Type 0) (first o more : O) (old m new : Running)
    (all left rest : List Choice) (c : Choice) (used : ℕ)
    → WatchedSoFar makes first o old m all left used
    → left ≡ c ∷ rest
    → new ≡ machine_after m c
    → has_ended m.test m.state.flat ≡ false
    → makes o m (used + 1) c more
    → WatchedSoFar makes first more old new all rest (used + 1)
watched-more makes first o more old m new all left rest c used so_far is after live made = record {
  on = λ last end w. so_far.on last end
      (subst (λ (l : List Choice). Watched makes o m (used + 1) l last end) (sym is)
      (next o more last m end (used + 1) c rest live made (subst (λ (n : Running). Watched makes more n (used + 1 + 1) rest last end) after w)));
}

-- ---- one more choice

going : (m : Running) (c : Choice) (rest : List Choice) → has_ended m.test m.state.flat ≡ false
    → bus_run_of m (c ∷ rest) ≡ then_on (machine_effect m c) (bus_run_of (machine_after m c) rest)
going m c rest live = rw live refl

counting : (m : Running) (c : Choice) (rest : List Choice) → has_ended m.test m.state.flat ≡ false
    → counted_of m (c ∷ rest) ≡ counted_of (machine_after m c) rest
counting m c rest live = rw live refl

made : (old m : Running) (all rest : List Choice) (c : Choice) (used stalled : ℕ) → Laws → SoFar old m all (c ∷ rest) used stalled
    → has_ended m.test m.state.flat ≡ false → AnswerFits m c
    → SoFar old (machine_after m c) all rest (used + 1) (stalled + stall_count (machine_effect m c).effect.outcome)
made old m all rest c used stalled laws s live fits =
    let one = going m c rest live in
    record {
      test = s.test;
      bus = s.bus;
      depth = s.depth;
      failed = s.failed;
      state = s.state ∙ ap (λ (r : BusRun). left_by r) one;
      commits = s.commits ∙ ap (λ (r : BusRun). m.commits ++ r.run.commits) one
          ∙ sym (append_assoc m.commits (machine_effect m c).effect.commits (bus_run_of (machine_after m c) rest).run.commits);
      statistics = s.statistics ∙ counting m c rest live;
      uses = let u = s.uses in let n = ap (λ (r : BusRun). r.run.used) one in omega arith;
      stalls = let u = s.stalls in let n = ap (λ (r : BusRun). r.run.stalled) one in omega arith;
      possible = laws.steps.next m.bus m.test m.depth m.commits m.state (attempt_on m c) s.possible fits;
      answers = λ fit. s.answers (fits, fit);
    }

pub one-more : (old m new : Running) (all left rest : List Choice) (c : Choice) (used stalled more : ℕ) → Laws → SoFar old m all left used stalled
    → left ≡ c ∷ rest
    → new ≡ machine_after m c
    → has_ended m.test m.state.flat ≡ false
    → AnswerFits m c
    → more ≡ stall_count (machine_effect m c).effect.outcome
    → SoFar old new all rest (used + 1) (stalled + more)
one-more old m new all left rest c used stalled more laws s is after live fits stalls =
    let here : SoFar old m all (c ∷ rest) used stalled = subst (λ (l : List Choice). SoFar old m all l used stalled) is s in
    subst (λ (n : Running). SoFar old n all rest (used + 1) (stalled + more)) (sym after)
    (subst (λ (k : ℕ). SoFar old (machine_after m c) all rest (used + 1) (stalled + k)) (sym stalls) (made old m all rest c used stalled laws here live fits))

-- by a stall no test ends
pub still-going : (m new : Running) (c : Choice) (why : Stall)
    → Laws
    → IsPossible m
    → new ≡ machine_after m c
    → (machine_effect m c).effect.outcome ≡ Stalled why
    → has_ended new.test new.state.flat ≡ has_ended m.test m.state.flat
still-going m new c why laws possible after stalls =
    ap (λ (n : Running). has_ended n.test n.state.flat) after
    ∙ ap (λ (s : BusState). has_ended m.test s.flat) (laws.stalls m.bus m.test m.depth m.commits m.state (attempt_on m c) why possible stalls).same

-- the outcomes that aren't stalls
pub no-stall : (o : Outcome) → (o ≡ Committed) ⊎ ((o ≡ Buffered) ⊎ ((o ≡ Moved) ⊎ (o ≡ Asked))) → stall_count o ≡ 0
no-stall o (inl is) = ap stall_count is
no-stall o (inr (inl is)) = ap stall_count is
no-stall o (inr (inr (inl is))) = ap stall_count is
no-stall o (inr (inr (inr is))) = ap stall_count is

-- ---- where the test has ended, all answers fit

-- the state is that of a run that ended
record IsEnd (bus : Bus) (t : Litmus) (depth : ℕ) (state : BusState) : Type 0 where
  attempts : List Attempt
  left : left_by (run_on bus t depth attempts) ≡ state
  ended : EndOn bus t depth attempts
  free : state.holder ≡ Free

end-is : (bus : Bus) (t : Litmus) (depth : ℕ) (commits : List Entry) (state : BusState) → Laws → IsPossibleOn bus t depth commits state
    → has_ended t state.flat ≡ true → IsEnd bus t depth state
end-is bus t depth commits state laws possible over =
    let stops = laws.ends.stops bus t depth possible.attempts in
    let left : left_by (run_on bus t depth possible.attempts) ≡ state = stops.all_state ∙ possible.state_is in
    record {
      attempts = possible.attempts;
      left = left;
      ended = stops.ended ∙ ap (λ (s : BusState). has_ended t s.flat) left ∙ over;
      free = laws.so_far.free bus t depth commits state possible over;
    }

end-fits : (bus : Bus) (t : Litmus) (depth : ℕ) (state : BusState) (attempts : List Attempt)
    → Laws
    → IsEnd bus t depth state
    → HitsFit bus t depth state attempts
end-fits bus t depth state [] laws e = tt
end-fits bus t depth state (a ∷ rest) laws e =
    let same : after_on bus t depth state a ≡ state =
    subst (λ (s : BusState). after_on bus t depth s a ≡ s) e.left (laws.ends.nothing_more bus t depth e.attempts a e.ended).same in (
      subst (λ (h : Holder). HitFits t depth state.flat a h) (sym e.free) tt,
      subst (λ (s : BusState). HitsFit bus t depth s rest) (sym same) (end-fits bus t depth state rest laws e),
    )

-- ---- where the driving stops

resting : (m : Running) (left : List Choice) → has_ended m.test m.state.flat ≡ true → (n : ℕ) × (bus_run_of m left ≡ resting_on true m.state n)
resting m [] over = (0, rw over refl)
resting m (c ∷ rest) over = (length (answers_of m (c ∷ rest)), rw over refl)

counted-at-end : (m : Running) (left : List Choice) → has_ended m.test m.state.flat ≡ true → counted_of m left ≡ m.statistics
counted-at-end m [] over = refl
counted-at-end m (c ∷ rest) over = rw over refl

pub driven-to-end : (old m : Running) (all left : List Choice) (used stalled : ℕ) → Laws → SoFar old m all left used stalled
    → has_ended m.test m.state.flat ≡ true → Drives old m all used stalled
driven-to-end old m all left used stalled laws s over =
    let rest = resting m left over in
    record {
      test = s.test;
      bus = s.bus;
      depth = s.depth;
      failed = s.failed;
      state = sym (s.state ∙ ap (λ (r : BusRun). left_by r) rest.1);
      commits = sym (s.commits ∙ ap (λ (r : BusRun). m.commits ++ r.run.commits) rest.1 ∙ append-nil m.commits);
      statistics = sym (s.statistics ∙ counted-at-end m left over);
      used = let u = s.uses in let n = ap (λ (r : BusRun). r.run.used) rest.1 in omega arith;
      stalled = let u = s.stalls in let n = ap (λ (r : BusRun). r.run.stalled) rest.1 in omega arith;
      answers = s.answers (end-fits m.bus m.test m.depth m.state _ laws (end-is m.bus m.test m.depth m.commits m.state laws s.possible over));
    }

-- or once no choice is left
pub driven-through : (old m : Running) (all left : List Choice) (used stalled : ℕ)
    → SoFar old m all left used stalled
    → left ≡ []
    → Drives old m all used stalled
driven-through old m all left used stalled so_far none =
    let s = subst (λ (l : List Choice). SoFar old m all l used stalled) none so_far in
    record {
      test = s.test;
      bus = s.bus;
      depth = s.depth;
      failed = s.failed;
      state = sym s.state;
      commits = sym (s.commits ∙ append-nil m.commits);
      statistics = sym s.statistics;
      used = let u = s.uses in omega arith;
      stalled = let u = s.stalls in omega arith;
      answers = s.answers tt;
    }
