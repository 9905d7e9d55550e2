-- A run on either bus, and the flat machine's run that follows it, choice by choice: what both use, stall and leave over.
use Rattle.tso_laws.proofs.BusVocabulary.{◌≡◌, ◌<◌, ℕ, ◌+◌, Bool, true, false, if◌then◌else◌, List, [], ◌∷◌, ◌++◌, length, take, arith, ap}
use Rattle.tso_laws.proofs.BusVocabulary.{sym, ◌∙◌, refl, subst, append_assoc, append-nil, Litmus, State, effect_of, after_choice, chosen}
use Rattle.tso_laws.proofs.BusVocabulary.{applied, Run, has_ended, stall_count, then_run, run_from, CoresExist, Holder, Free, Attempt}
use Rattle.tso_laws.proofs.BusVocabulary.{BusState, BusRun, effect_on, after_on, resting_on, then_on, run_on_from, choices_in, HitsFit}
use Rattle.tso_laws.proofs.BusVocabulary.{put_together, Bus, Choice, state_after, commits_of, HolderFits, waiting, made_for_bus}
use Rattle.tso_laws.proofs.BusVocabulary.{wait_for_bus}
use Rattle.tso_laws.proofs.BusWaiting.{AllStores}
use Rattle.tso_laws.proofs.Moving.{moved}
use Rattle.tso_laws.proofs.Following.{Counts, for_bus, as_flat, Goes, choice-goes}

-- the flat machine's run from a state on that follows this run
pub record FollowsFrom (bus : Bus) (t : Litmus) (depth : ℕ) (state : BusState) (attempts : List Attempt) (r : BusRun) : Type 0 where
  pub choices : List Choice
  pub cores : CoresExist (length t.programs) (choices_in attempts) → CoresExist (length t.programs) choices
  pub ended : (run_from t depth state.flat choices).ended ≡ r.run.ended
  pub same : (run_from t depth state.flat choices).state ≡ r.run.state
  pub commits : moved state.holder (put_together r.run.commits) ≡ (run_from t depth state.flat choices).commits ++ waiting r.holder
  pub used : (run_from t depth state.flat choices).used + made_for_bus bus t depth state (take r.run.used attempts) ≡ r.run.used
  pub stalled : (run_from t depth state.flat choices).stalled + wait_for_bus bus t depth state (take r.run.used attempts) ≡ r.run.stalled
  pub unused : (run_from t depth state.flat choices).unused ≡ 0

moved-none : (holder : Holder) → moved holder [] ≡ waiting holder
moved-none Free = refl
moved-none _ = refl

-- a run that makes no more choices
rests : (bus : Bus) (t : Litmus) (depth : ℕ) (state : BusState) (attempts : List Attempt) (ended : Bool) (unused : ℕ) → has_ended t state.flat ≡ ended
    → FollowsFrom bus t depth state attempts (resting_on ended state unused)
rests bus t depth state attempts ended unused q = record {
  choices = [];
  cores = λ h. tt;
  ended = q;
  same = refl;
  commits = moved-none state.holder;
  used = refl;
  stalled = refl;
  unused = refl;
}

-- a choice of the flat machine, and then its run
one-on : (t : Litmus) (depth : ℕ) (state next : State) (a : Choice) (rest : List Choice) → has_ended t state ≡ false → after_choice t depth state a ≡ next
    → run_from t depth state (a ∷ rest) ≡ then_run (effect_of t depth state a) (run_from t depth next rest)
one-on t depth state next a rest q now = rw (q, ← now) refl

goes-on : (bus : Bus) (t : Litmus) (depth : ℕ) (state : BusState) (a : Attempt) (rest : List Attempt) (r : BusRun) → has_ended t state.flat ≡ false
    → Goes bus t depth state.flat (chosen a.choice) state.holder (effect_on bus t depth state a)
    → FollowsFrom bus t depth (after_on bus t depth state a) rest r → FollowsFrom bus t depth state (a ∷ rest) (then_on (effect_on bus t depth state a) r)
goes-on bus t depth state a rest r q g h = by_count g.choices g.counted g.now (g.commits r.run.commits)
  where
    next : State
    next = applied state.flat (chosen a.choice) (effect_on bus t depth state a).effect

    by_count : (choices : List Choice) → Counts t depth state.flat (chosen a.choice) (effect_on bus t depth state a).effect choices
        → state_after t depth state.flat choices ≡ next
        → moved state.holder (put_together ((effect_on bus t depth state a).effect.commits ++ r.run.commits))
        ≡ commits_of t depth state.flat choices ++ moved (effect_on bus t depth state a).holder (put_together r.run.commits)
        → FollowsFrom bus t depth state (a ∷ rest) (then_on (effect_on bus t depth state a) r)
    by_count _ (for_bus one stalls) now commits =
        let same : run_from t depth state.flat h.choices ≡ run_from t depth next h.choices = ap (λ z. run_from t depth z h.choices) now in
        record {
          choices = h.choices;
          cores = λ k. h.cores k.1;
          ended = ap (λ (z : Run). z.ended) same ∙ h.ended;
          same = ap (λ (z : Run). z.state) same ∙ h.same;
          commits = commits ∙ h.commits ∙ ap (λ (z : Run). z.commits ++ waiting r.holder) (sym same);
          used = let e = ap (λ (z : Run). z.used) same in let u = h.used in omega arith;
          stalled = let e = ap (λ (z : Run). z.stalled) same in let u = h.stalled in omega arith;
          unused = ap (λ (z : Run). z.unused) same ∙ h.unused;
        }
    by_count _ (as_flat c own none outcome) now commits =
        let same : run_from t depth state.flat (c ∷ h.choices) ≡ then_run (effect_of t depth state.flat c) (run_from t depth next h.choices) =
        one-on t depth state.flat next c h.choices q now in
        record {
          choices = c ∷ h.choices;
          cores = λ k. (subst (λ z. z < length t.programs) (sym own) k.0, h.cores k.1);
          ended = ap (λ (z : Run). z.ended) same ∙ h.ended;
          same = ap (λ (z : Run). z.state) same ∙ h.same;
          commits = commits ∙ ap (λ z. ((effect_of t depth state.flat c).commits ++ []) ++ z) h.commits
              ∙ ap (λ z. z ++ ((run_from t depth next h.choices).commits ++ waiting r.holder)) (append-nil (effect_of t depth state.flat c).commits)
              ∙ sym (append_assoc (effect_of t depth state.flat c).commits (run_from t depth next h.choices).commits (waiting r.holder))
              ∙ ap (λ (z : Run). z.commits ++ waiting r.holder) (sym same);
          used = let e = ap (λ (z : Run). z.used) same in let u = h.used in omega arith;
          stalled = let e = ap (λ (z : Run). z.stalled) same in let u = h.stalled in let s = ap stall_count outcome in omega arith;
          unused = ap (λ (z : Run). z.unused) same ∙ h.unused;
        }

pub run-follows-from : (bus : Bus) (t : Litmus) (depth : ℕ) (state : BusState) (attempts : List Attempt)
    → AllStores state.flat
    → HolderFits bus t depth state.flat state.holder
    → HitsFit bus t depth state attempts → FollowsFrom bus t depth state attempts (run_on_from bus t depth state attempts)
run-follows-from bus t depth state [] stores fits hits = rests bus t depth state [] (has_ended t state.flat) 0 refl
run-follows-from bus t depth state (a ∷ rest) stores fits hits =
    let g = choice-goes bus t depth state a stores fits hits.0 in
    go (has_ended t state.flat) refl g (run-follows-from bus t depth (after_on bus t depth state a) rest g.stores g.holds hits.1)
  where
    go : (b : Bool) → has_ended t state.flat ≡ b → Goes bus t depth state.flat (chosen a.choice) state.holder (effect_on bus t depth state a)
        → FollowsFrom bus t depth (after_on bus t depth state a) rest (run_on_from bus t depth (after_on bus t depth state a) rest)
        → FollowsFrom bus t depth state (a ∷ rest)
        (if b
        then resting_on true state (length (a ∷ rest))
        else then_on (effect_on bus t depth state a) (run_on_from bus t depth (after_on bus t depth state a) rest))
    go true q g h = rests bus t depth state (a ∷ rest) true (length (a ∷ rest)) q
    go false q g h = goes-on bus t depth state a rest (run_on_from bus t depth (after_on bus t depth state a) rest) q g h
