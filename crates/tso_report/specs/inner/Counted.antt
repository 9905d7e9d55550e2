-- How a tally keeps its counts: ascending lists of values with a count each, and the runs that didn't end beside them, so
-- that all runs are counted somewhere.
use Rattle.std.specs.Prelude.{ℕ, ◌≡◌, ◌+◌, ◌<◌, ◌^◌, Bool, List, map, sum, Vec, if◌then◌else◌}
use Rattle.std.specs.Map.{values_of}
use Rattle.std.specs.declared.alloc.Global.{Global}
use Rattle.tso_report.specs.declared.counters.Counters.{Counters}
use Rattle.tso_report.specs.Tally.{RunCounts, run_counts}

-- each list of values with its count
abbrev pub counted_states : List (Vec ℕ Global × ℕ) → List (List ℕ × ℕ)
counted_states entries = map (λ e. (e.0.items, e.1)) entries

abbrev pub counts_in : Counters → RunCounts
counts_in c = run_counts (counted_states c.states.entries) c.held c.failed c.unfinished

-- the runs that ended are those of all states, and each made the proposition true or false, if there is one
pub record IsKept (judged : Bool) (c : Counters) : Type 0 where
  pub ended : c.ended ≡ sum (values_of (counted_states c.states.entries))
  pub verdicts : c.held + c.failed ≡ (if judged then c.ended else 0)
  pub room : c.ended + c.unfinished < 2 ^ 32
