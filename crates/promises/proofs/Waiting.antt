-- Between the two parts of a locked instruction the accesses of other cores to its line wait.
use Rattle.promises.proofs.Vocabulary.{arith, ◌≡◌, ◌≢◌, ◌∙◌, ◌==◌, ℕ, Bool, true, false, not, if◌then◌else◌, Result, Ok, Err, OnOk, refl}
use Rattle.promises.proofs.Vocabulary.{sym, ap, subst, chosen, core_of, effect_of, Choice, Step, Drain, Entry}
use Rattle.std.proofs.lemmas.Bool.Decides.{nat_tests}
use Rattle.tso_terms.specs.MemoryAccess.{MemoryAccess, NoAccess, Reads, Writes, Locks, access_of}
use Rattle.tso_terms.specs.SplitMachine.{HeldBetween, needs_bus, same_choice, acts, asks, begins, writes_last, split_effect}
use Rattle.tso_terms.specs.EitherBus.{effect_on}
use Rattle.tso_terms.specs.declared.choice.Stall.TheVariants as stall
use Rattle.multiprocessor.specs.Caches.{Caches, hits_by}
use Rattle.machine_core.specs.Running.{Running, attempt_on}
use Rattle.promises.specs.Locked.{HitsAlone, OwnCoreAloneHits}
use Rattle.promises.specs.inner.Waiting.{IsAtLine, OthersWaitForTheLine}

-- a choice of another core isn't the holder's
other-choice : (e : Entry) (choice : Choice) → chosen choice ≢ e.core.0 → same_choice (Step e.core) choice ≡ false
other-choice e (Drain core) n = refl
other-choice e (Step core) n = by_test (e.core.0 == core.0) refl
  where
    by_test : (b : Bool) → (e.core.0 == core.0) ≡ b → (e.core.0 == core.0) ≡ false
    by_test true q = absurd (n (sym (grind (arith, nat_tests, q))))
    by_test false q = q

-- an access that can't hit needs the bus
needs : (c : Caches) (e : Entry) (core : ℕ) (what : MemoryAccess)
    → HitsAlone c e
    → core ≢ e.core.0
    → IsAtLine c e.loc.0 what
    → needs_bus what (hits_by c core what) ≡ true
needs c e core NoAccess h n at = absurd at
needs c e core (Reads loc) h n at = ap not (h.others core loc.0 false n at)
needs c e core (Writes loc) h n at = ap not (h.others core loc.0 true n at)
needs c e core (Locks loc) h n at = refl

pub others-wait : (m : Running) → OwnCoreAloneHits m → OthersWaitForTheLine m
others-wait m h e choice split held other at =
    ap (λ b. (effect_on b m.test m.depth m.state (attempt_on m choice)).effect.outcome) split
    ∙ (ap (λ k. (split_effect m.test m.depth m.state.flat (attempt_on m choice) k).effect.outcome) held
    ∙ (ap (λ b.
    (if b
    then writes_last m.test m.depth m.state.flat e
    else begins m.test m.depth m.state.flat (attempt_on m choice) (HeldBetween e)).effect.outcome)
    (other-choice e choice other)
    ∙ ap (λ b.
    (if b
    then asks (core_of m.state.flat (chosen choice)) choice (HeldBetween e)
    else acts (effect_of m.test m.depth m.state.flat choice) (HeldBetween e)).effect.outcome)
    (needs m.statistics.caches e (chosen choice) (access_of m.test m.depth m.state.flat choice) (h e held) other at)))

pub others-wait-if : {V E : Type 0} (r : Result V E) (m : Running) → OnOk r (OwnCoreAloneHits m) → OnOk r (OthersWaitForTheLine m)
others-wait-if (Ok x) m h = others-wait m h
others-wait-if (Err x) m h = tt
