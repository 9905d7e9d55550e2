-- The counts of a run: as many as the test has cores, and none larger than the number of choices.
use Rattle.machine_runs.proofs.Vocabulary.{◌≡◌, ◌≤◌, ◌+◌, ℕ, Bool, true, false, cond, List, [], ◌∷◌, length, All, refl, ◌∙◌, arith, Litmus}
use Rattle.machine_runs.proofs.Vocabulary.{start, BusState, unheld, after_on, Bus, has_ended, Choice, Table, attempt_of, Statistics}
use Rattle.machine_runs.proofs.Vocabulary.{no_counts, statistics_from, statistics_after, no_statistics, counts_of}
use Rattle.std.proofs.lemmas.List.{length-replicate}
use Rattle.std.proofs.lemmas.List.Elements.{All-replicate, All-weaker}
use Rattle.cache_set.specs.Geometry.{Geometry}
use Rattle.multiprocessor.specs.Keeping.{IsAtMost}
use Rattle.multiprocessor.proofs.CountBounds.{IsAtMost-more, none-counted, use-counted, length-counted}

-- ---- as many as cores

-- the state after one more choice
abbrev next_of : Bus → Litmus → ℕ → BusState → Choice → Statistics → BusState
next_of bus t depth state c s = after_on bus t depth state (attempt_of t depth state.flat s.caches c)

length-from : (bus : Bus) (t : Litmus) (depth : ℕ) (state : BusState) (choices : List Choice) (s : Statistics)
    → length (statistics_from bus t depth state choices s).counts ≡ length s.counts
length-from bus t depth state [] s = refl
length-from bus t depth state (c ∷ cs) s =
    by_end (has_ended t state.flat)
    (length-from bus t depth (next_of bus t depth state c s) cs (statistics_after bus t depth state c s)
    ∙ length-counted _ _ s.counts)
  where
    by_end : (b : Bool)
        → length (statistics_from bus t depth (next_of bus t depth state c s) cs (statistics_after bus t depth state c s)).counts
        ≡ length s.counts
        → length (cond b s (statistics_from bus t depth (next_of bus t depth state c s) cs (statistics_after bus t depth state c s))).counts ≡ length s.counts
    by_end true h = refl
    by_end false h = h

pub counts-each : (bus : Bus) (table : Table) (shape : Geometry) (t : Litmus) (depth : ℕ) (choices : List Choice)
    → length (counts_of bus table shape t depth choices) ≡ length t.programs
counts-each bus table shape t depth choices =
    length-from bus t depth (unheld (start t)) choices (no_statistics table shape t) ∙ length-replicate (length t.programs) no_counts

-- ---- none is large

few-from : (bus : Bus) (t : Litmus) (depth : ℕ) (state : BusState) (choices : List Choice) (s : Statistics) (n m : ℕ)
    → n + length choices ≤ m
    → All (IsAtMost n) s.counts
    → All (IsAtMost m) (statistics_from bus t depth state choices s).counts
few-from bus t depth state [] s n m few all = All-weaker (IsAtMost n) (IsAtMost m) (λ c. IsAtMost-more n m c (omega arith)) s.counts all
few-from bus t depth state (c ∷ cs) s n m few all =
    by_end (has_ended t state.flat)
    (few-from bus t depth (next_of bus t depth state c s) cs (statistics_after bus t depth state c s) (n + 1) m
    (omega arith) (use-counted n _ _ s.counts all))
  where
    by_end : (b : Bool) → All (IsAtMost m) (statistics_from bus t depth (next_of bus t depth state c s) cs (statistics_after bus t depth state c s)).counts
        → All (IsAtMost m) (cond b s (statistics_from bus t depth (next_of bus t depth state c s) cs (statistics_after bus t depth state c s))).counts
    by_end true h = All-weaker (IsAtMost n) (IsAtMost m) (λ c. IsAtMost-more n m c (omega arith)) s.counts all
    by_end false h = h

pub counts-few : (bus : Bus) (table : Table) (shape : Geometry) (t : Litmus) (depth : ℕ) (choices : List Choice) (most : ℕ) → length choices ≤ most
    → All (IsAtMost most) (counts_of bus table shape t depth choices)
counts-few bus table shape t depth choices most few =
    few-from bus t depth (unheld (start t)) choices (no_statistics table shape t) 0 most (omega arith)
    (All-replicate (IsAtMost 0) (length t.programs) no_counts (none-counted 0))
