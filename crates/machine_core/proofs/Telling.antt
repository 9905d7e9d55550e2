-- What a choice makes of a machine, from what it makes of its hardware.
use Rattle.machine_core.proofs.Vocabulary.{◌≡◌, ◌≢◌, ◌++◌, ℕ, Bool, false, List, Result, Ok, Err, IsOk, IfOk, OnOk, OnErr, refl, sym, ◌∙◌}
use Rattle.machine_core.proofs.Vocabulary.{is_err, Litmus, BusState, after_on, Bus, Choice, Committed, Entry, NoMemory, Hardware}
use Rattle.machine_core.proofs.Vocabulary.{ChoiceAnswer, HasEffect, state_in, Running, machine_after, Statistics, statistics_in, attempt_in}
use Rattle.machine_core.proofs.Vocabulary.{effect_in, use_in, statistics_next, SucceedsUnlessCommitting, HasFailed, machine_effect}
use Rattle.machine_core.proofs.Vocabulary.{machine_use}
use Rattle.machine_core.specs.inner.Machine.{running_of}
use Rattle.machine_core.proofs.RunningLemmas.{same-state}

abbrev running : Litmus → Bus → ℕ → BusState → List Entry → Statistics → Bool → Running
running t bus d s xs n f = record { test = t; bus = bus; depth = d; state = s; commits = xs; statistics = n; failed = f }

running-is : (t : Litmus) (bus bus' : Bus) (d d' : ℕ) (s s' : BusState) (xs xs' : List Entry) (n n' : Statistics)
    (f f' : Bool)
    → bus' ≡ bus
    → d' ≡ d
    → s' ≡ s
    → xs' ≡ xs
    → n' ≡ n
    → f' ≡ f
    → running t bus' d' s' xs' n' f' ≡ running t bus d s xs n f
running-is t bus bus' d d' s s' xs xs' n n' f f' b p q r w u = rw (b, p, q, r, w, u) refl

module _ {P : Type 0} (r : Result ChoiceAnswer NoMemory) (t : Litmus) (m new : Hardware P) (choice : Choice)
    (now : Running) (failed : Bool) (view : running_of t m failed ≡ now) where
  pub outcome-told : IfOk r (λ o. HasEffect m new choice (effect_in t m choice) o.0) → IfOk r (λ o. o.0 ≡ (machine_effect now choice).effect.outcome)
  outcome-told ok = rw (← view) (by_result r ok)
    where
      by_result : (r : Result ChoiceAnswer NoMemory)
          → IfOk r (λ o. HasEffect m new choice (effect_in t m choice) o.0)
          → IfOk r (λ o. o.0 ≡ (effect_in t m choice).effect.outcome)
      by_result (Ok o) done = done.outcome
      by_result (Err e) done = tt

  pub how-told : IfOk r (λ o. o.1 ≡ (use_in t m choice).how) → IfOk r (λ o. o.1 ≡ (machine_use now choice).how)
  how-told how = rw (← view) how

  pub succeeds-told : SucceedsUnlessCommitting r (effect_in t m choice).effect → (machine_effect now choice).effect.outcome ≢ Committed → IsOk r
  succeeds-told succeeds = rw (← view) succeeds

  module _ (after : Bool) (config : new.config ≡ m.config) where
    pub after-told : failed ≡ false
        → after ≡ is_err r
        → IfOk r (λ o. HasEffect m new choice (effect_in t m choice) o.0)
        → OnOk r (statistics_in new ≡ statistics_next t m choice)
        → OnOk r (running_of t new after ≡ machine_after now choice)
    after-told was is ok statistics = rw (← view) (by_result r is ok statistics)
      where
        by_result : (r : Result ChoiceAnswer NoMemory)
            → after ≡ is_err r
            → IfOk r (λ o. HasEffect m new choice (effect_in t m choice) o.0)
            → OnOk r (statistics_in new ≡ statistics_next t m choice)
            → OnOk r (running_of t new after ≡ machine_after (running_of t m failed) choice)
        by_result (Ok o) is done counted =
            running-is t m.config.bus new.config.bus m.config.depth new.config.depth
            (after_on m.config.bus t m.config.depth (state_in m) (attempt_in t m choice)) (state_in new)
            (m.commits.entries ++ (effect_in t m choice).effect.commits) new.commits.entries (statistics_next t m choice) (statistics_in new) failed after
            (rw config refl) (rw config refl)
            (same-state (state_in new) (after_on m.config.bus t m.config.depth (state_in m) (attempt_in t m choice)) done.flat done.holder)
            done.commits counted (is ∙ sym was)
        by_result (Err e) is done counted = tt

    pub refused-told : after ≡ is_err r
        → OnErr r (state_in new ≡ state_in m)
        → OnErr r (new.commits.entries ≡ m.commits.entries)
        → OnErr r (statistics_in new ≡ statistics_in m)
        → OnErr r (HasFailed now (running_of t new after))
    refused-told is state commits statistics = rw (← view) (by_result r is state commits statistics)
      where
        by_result : (r : Result ChoiceAnswer NoMemory)
            → after ≡ is_err r
            → OnErr r (state_in new ≡ state_in m)
            → OnErr r (new.commits.entries ≡ m.commits.entries)
            → OnErr r (statistics_in new ≡ statistics_in m)
            → OnErr r (HasFailed (running_of t m failed) (running_of t new after))
        by_result (Ok o) is state commits statistics = tt
        by_result (Err e) is state commits statistics = record {
          test = refl;
          bus = rw config refl;
          depth = rw config refl;
          state = state;
          commits = commits;
          statistics = statistics;
          failed = is;
        }
