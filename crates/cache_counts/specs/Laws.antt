-- What is counted of several runs against each of them, as laws: how many ended, and that a sum, a least and a greatest are those of
-- the runs that ended, and of no other.
use Rattle.std.specs.Prelude.{ℕ, zero, suc, ◌≡◌, ◌+◌, ◌*◌, ◌<◌, ◌≤◌, List, length, Option, Some, None, IfSome, slice_get}
use Rattle.tso_terms.specs.Litmus.{Litmus}
use Rattle.tso_terms.specs.declared.choice.Choice.{Choice}
use Rattle.protocol_tables.specs.declared.kind.ProtocolKind.{ProtocolKind}
use Rattle.multiprocessor.specs.Configuration.{Configuration}
use Rattle.scheduler.specs.Plan.{Plan}
use Rattle.cache_counts.specs.Counted.{Counted, counted_by, counted_once, numbers_under, seeded_numbers}
use Rattle.cache_counts.specs.declared.spread.Spread.{Spread}

-- the number at this place, if the run ended
abbrev pub number_of_run : ℕ → Option (List ℕ) → Option ℕ
number_of_run place None = None
number_of_run place (Some ns) = slice_get ns place

abbrev pub or_zero : Option ℕ → ℕ
or_zero None = 0
or_zero (Some n) = n

-- the sum over so many runs
abbrev pub sum_over : (ℕ → Option ℕ) → ℕ → ℕ
sum_over number zero = 0
sum_over number (suc n) = sum_over number n + or_zero (number n)

-- 1 for a run that ended
abbrev pub ends : Option (List ℕ) → ℕ
ends None = 0
ends (Some ns) = 1

-- how many of so many runs ended
abbrev pub ended_among : (ℕ → Option (List ℕ)) → ℕ → ℕ
ended_among runs zero = 0
ended_among runs (suc n) = ended_among runs n + ends (runs n)

-- of so many runs, each with this number if it ended: the sum is theirs, none is less than the least or greater than the greatest, and
-- both are the number of some run
pub record TellsNumbers (number : ℕ → Option ℕ) (n : ℕ) (s : Spread) : Type 0 where
  pub sum : s.sum ≡ sum_over number n
  pub within : (i : ℕ) → i < n → IfSome (number i) (λ x. (s.least ≤ x) × (x ≤ s.greatest))
  pub least : (i : ℕ) × (i < n) × (number i ≡ Some s.least)
  pub greatest : (i : ℕ) × (i < n) × (number i ≡ Some s.greatest)

-- of so many runs, each with so many numbers if it ended
pub record TellsRuns (runs : ℕ → Option (List ℕ)) (many n : ℕ) (k : Counted) : Type 0 where
  pub ended : k.ended ≡ ended_among runs n
  pub all : k.ended + k.unfinished ≡ n
  pub size : 0 < k.ended → length k.spreads ≡ many
  pub numbers : (place : ℕ) (s : Spread) → slice_get k.spreads place ≡ Some s → TellsNumbers (λ i. number_of_run place (runs i)) n s

-- each run that ends has twelve numbers for each core; and what is counted of the runs of a plan, and of one run, tells them
pub record CountsTellTheirRuns : Type 0 where
  pub twelve : (t : Litmus) (kind : ProtocolKind) (c : Configuration) (choices : List Choice)
      → IfSome (numbers_under t kind c choices) (λ ns. length ns ≡ 12 * length t.programs)
  pub plans : (t : Litmus) (kind : ProtocolKind) (c : Configuration) (plan : Plan)
      → TellsRuns (seeded_numbers t kind c plan.length plan.from) (12 * length t.programs) plan.seeds (counted_by t kind c plan)
  pub once : (t : Litmus) (kind : ProtocolKind) (c : Configuration) (choices : List Choice)
      → TellsRuns (λ i. numbers_under t kind c choices) (12 * length t.programs) 1 (counted_once t kind c choices)
