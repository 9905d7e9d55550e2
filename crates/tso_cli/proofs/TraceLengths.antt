-- How many choices a run uses, and the word that says the first one too many.
use Rattle.tso_cli.proofs.Vocabulary.{◌≡◌, ◌≤◌, ◌<◌, ℕ, Bool, true, false, ◌⊎◌, inl, inr, suc, List, [], ◌∷◌, length, Result, Option, Some}
use Rattle.tso_cli.proofs.Vocabulary.{None, Err, refl, sym, ap, subst, ◌∙◌, arith, Litmus, start, Run, has_ended, Choice, TooMany, Table}
use Rattle.tso_cli.proofs.Vocabulary.{table_of, ProtocolKind, Configuration, run_by, run_under, IsEndingOf, FitsForm, IsTooLong, Ended}
use Rattle.tso_cli.proofs.Vocabulary.{Unfinished}
use Rattle.std.specs.Prelude.{IsSome, IfSome, if◌then◌else◌}
use Rattle.tso_terms.specs.EitherBus.{BusState, unheld, effect_on, after_on, resting_on, then_on, run_on_from}
use Rattle.tso_terms.specs.SplitMachine.{Attempt}
use Rattle.basic_laws.specs.Types.{Bus, Atomic, Split}
use Rattle.tso_laws.proofs.Beginnings.{run-begins}
use Rattle.scheduler.specs.WordOfChoice.{IsWordOfChoice}
use Rattle.scheduler.specs.declared.fault.ChoiceFault.{ChoiceFault}
use Rattle.scheduler.proofs.Stopping.{stops}
use Rattle.multiprocessor.specs.Answered.{answered}
use Rattle.multiprocessor.specs.Statistics.{no_statistics}
use Rattle.trace_report.specs.TracedRun.{most_steps}
use Rattle.tso_cli.specs.inner.Trace.{used_in, IsMeasured}
use Rattle.machine_runs.specs.declared.driving.Ending.{Ending}
use Rattle.machine_runs.proofs.BusLemmas.{length-answered}

-- a run uses no more choices than there are
used-on : (bus : Bus) (t : Litmus) (d : ℕ) (state : BusState) (xs : List Attempt) → (run_on_from bus t d state xs).run.used ≤ length xs
used-on bus t d state [] = omega arith
used-on bus t d state (a ∷ rest) = go (has_ended t state.flat) (used-on bus t d (after_on bus t d state a) rest)
  where
    go : (b : Bool) → (run_on_from bus t d (after_on bus t d state a) rest).run.used ≤ length rest
        → (if b
        then resting_on true state (suc (length rest))
        else then_on (effect_on bus t d state a) (run_on_from bus t d (after_on bus t d state a) rest)).run.used
        ≤ suc (length rest)
    go true h = omega arith
    go false h = omega (arith, h)

used-by : (bus : Bus) (table : Table) (c : Configuration) (t : Litmus) (choices : List Choice) → (run_by bus table c t choices).used ≤ length choices
used-by Atomic table c t choices = let count = (run-begins t c.depth (start t) choices).count in omega (arith, count)
used-by Split table c t choices =
    let attempts = answered Split table c.shape t c.depth choices in
    let most = used-on Split t c.depth (unheld (start t)) attempts in
    omega (arith, most, length-answered Split t c.depth (unheld (start t)) (no_statistics table c.shape t).caches choices)

pub used-within : (t : Litmus) (kind : ProtocolKind) (c : Configuration) (choices : List Choice) → (run_under t kind c choices).used ≤ length choices
used-within t kind c choices = used-by c.bus (table_of kind) c t choices

-- what the answer of a simulation says of it
pub used-is : (t : Litmus) (r : Run) (e : Ending) → IsEndingOf t r e → used_in e ≡ r.used
used-is t r (Ended run) is = ap (λ s. s.used) is.1
used-is t r (Unfinished used stalled) is = is.1

-- a run is too long for its form, or it isn't
pub too-long-or-not : (json : Bool) (r : Run) → FitsForm json r ⊎ IsTooLong json r
too-long-or-not true r = by_size (sizes r.used most_steps)
  where
    sizes : (n m : ℕ) → (n ≤ m) ⊎ (m < n)
    sizes n m = grind arith

    by_size : (r.used ≤ most_steps) ⊎ (most_steps < r.used) → FitsForm true r ⊎ IsTooLong true r
    by_size (inl short) = inl (λ _. short)
    by_size (inr long) = inr (refl, long)
too-long-or-not false r = inl (λ is. absurd (let no : ⊥ = cc in no))

-- lines have no limit
pub lines-fit : (r : Run) → FitsForm false r
lines-fit r = λ is. absurd (let no : ⊥ = cc in no)

pub never-both : (json : Bool) (r : Run) → FitsForm json r → IsTooLong json r → ⊥
never-both json r fits long = let short = fits long.0 in let more = long.1 in omega (arith, short, more)

-- a simulation that used more is too long, and one is not for whose choices no such word was found
is-too-long : (t : Litmus) (r : Run) (e : Ending) (used : ℕ) → used ≡ used_in e → IsEndingOf t r e → most_steps < used → IsTooLong true r
is-too-long t r e used is ending more = (refl, subst (λ (n : ℕ). most_steps < n) (is ∙ used-is t r e ending) more)

never-none : (o : Option ℕ) → o ≡ None → IsSome o → ⊥
never-none None same h = let no : ⊥ = cc in no
never-none (Some n) same h = let no : ⊥ = cc in no

is-short : (t : Litmus) (kind : ProtocolKind) (c : Configuration) (choices : List Choice) (e : Ending) (used : ℕ) (found : Option ℕ)
    → used ≡ used_in e → IsEndingOf t (run_under t kind c choices) e → found ≡ None → (used ≤ length choices → most_steps < used → IsSome found)
    → FitsForm true (run_under t kind c choices)
is-short t kind c choices e used found is ending none there = by_length (too-long-or-not true (run_under t kind c choices))
  where
    by_length : FitsForm true (run_under t kind c choices) ⊎ IsTooLong true (run_under t kind c choices) → FitsForm true (run_under t kind c choices)
    by_length (inl short) = short
    by_length (inr long) =
        let same = sym (is ∙ used-is t (run_under t kind c choices) e ending) in
        let some : IsSome found =
        there (subst (λ (n : ℕ). n ≤ length choices) same (used-within t kind c choices)) (subst (λ (n : ℕ). most_steps < n) same long.1) in
        absurd (never-none found none some)

-- how it is measured, then
pub is-measured : (t : Litmus) (kind : ProtocolKind) (c : Configuration) (choices : List Choice) (e : Ending) (text : List ℕ) (used : ℕ) (found : Option ℕ)
    → used ≡ used_in e
    → IsEndingOf t (run_under t kind c choices) e
    → IfSome found (λ word. (most_steps < used) × IsWordOfChoice (length t.programs) text most_steps word)
    → (used ≤ length choices → most_steps < used → IsSome found) → IsMeasured t (run_under t kind c choices) text found
is-measured t kind c choices e text used None is ending said there = is-short t kind c choices e used None is ending refl there
is-measured t kind c choices e text used (Some word) is ending said there = (is-too-long t (run_under t kind c choices) e used is ending said.0, said.1)

-- one word says a choice
pub one-word : (cores : ℕ) (text : List ℕ) (word other : ℕ)
    → 0 < cores
    → IsWordOfChoice cores text most_steps word
    → IsWordOfChoice cores text most_steps other
    → word ≡ other
one-word cores text word other some is too =
    one-fault word other _ (stops cores _ most_steps word some (omega arith) is) (stops cores _ most_steps other some (omega arith) too)
  where
    one-fault : (n m : ℕ) (r : Result (List Choice) ChoiceFault) → r ≡ Err (TooMany n) → r ≡ Err (TooMany m) → n ≡ m
    one-fault n m r same again = cc
