-- What is counted of a run, and of many runs: for each core twelve numbers, its cache's six counts and what its accesses had
-- moved, and of each number the sum, the least and the greatest over the runs that ended. A run that didn't end is counted as such
-- and gives no number. (This project's profile.)
use Rattle.std.specs.Prelude.{ℕ, zero, suc, ◌+◌, min, max, if◌then◌else◌, List, [], ◌∷◌, ◌++◌, length, Option, Some, None}
use Rattle.tso_terms.specs.Litmus.{Litmus}
use Rattle.tso_terms.specs.declared.choice.Choice.{Choice}
use Rattle.protocol_tables.specs.Tables.{Table, table_of}
use Rattle.protocol_tables.specs.declared.kind.ProtocolKind.{ProtocolKind}
use Rattle.multiprocessor.specs.Configuration.{Configuration}
use Rattle.multiprocessor.specs.declared.counts.Counts.{Counts}
use Rattle.machine_runs.specs.Runs.{run_under, counts_under}
use Rattle.scheduler.specs.Plan.{Plan}
use Rattle.scheduler.specs.Seeds.{seeded_choices}
use Rattle.cache_counts.specs.Traffic.{traffic_of}
use Rattle.cache_counts.specs.Uses.{uses_of}
use Rattle.cache_counts.specs.declared.noting.CoreUse.{CoreUse}
use Rattle.cache_counts.specs.declared.spread.Spread.{Spread}
use Rattle.cache_counts.specs.declared.traffic.Traffic.{Traffic}

-- one core's numbers, in the order in which they are printed
abbrev pub core_numbers : Counts → Traffic → List ℕ
core_numbers c x =
    c.hits ∷ (c.misses ∷ (c.upgrades ∷ (c.forwards ∷ (c.write_backs ∷ (c.flushes ∷
    (x.get_s ∷ (x.get_m ∷ (x.invalidations ∷ (x.from_caches ∷ (x.from_memory ∷ (x.to_memory ∷ [])))))))))))

-- the numbers of the cores from this one on, core by core, by their caches' counts and what the choices had to do with the caches
abbrev pub numbers_from : Table → List CoreUse → ℕ → List Counts → List ℕ
numbers_from table uses core [] = []
numbers_from table uses core (c ∷ cs) = core_numbers c (traffic_of table core uses) ++ numbers_from table uses (core + 1) cs

-- the numbers of a test's run under choices, if it ends
abbrev pub numbers_under : Litmus → ProtocolKind → Configuration → List Choice → Option (List ℕ)
numbers_under t kind c choices =
    if (run_under t kind c choices).ended
    then Some (numbers_from (table_of kind) (uses_of (table_of kind) c t choices) 0 (counts_under t kind c choices))
    else None

-- a number of several runs: its sum, the least and the greatest, once one more run gave this number
abbrev pub spread_with : Option Spread → ℕ → Spread
spread_with None n = record { sum = n; least = n; greatest = n }
spread_with (Some s) n = record { sum = s.sum + n; least = min s.least n; greatest = max s.greatest n }

-- the same of a list of numbers, each for its place
abbrev pub spreads_with : List Spread → List ℕ → List Spread
spreads_with ss [] = []
spreads_with [] (n ∷ ns) = spread_with None n ∷ spreads_with [] ns
spreads_with (s ∷ ss) (n ∷ ns) = spread_with (Some s) n ∷ spreads_with ss ns

-- what is counted of several runs: how many ended and how many didn't, and each number of those that ended
pub record Counted : Type 0 where
  pub ended : ℕ
  pub unfinished : ℕ
  pub spreads : List Spread

abbrev pub no_runs_counted : Counted
no_runs_counted = record { ended = 0; unfinished = 0; spreads = [] }

-- one more run
abbrev pub with_counted_run : Option (List ℕ) → Counted → Counted
with_counted_run None k = record { ended = k.ended; unfinished = k.unfinished + 1; spreads = k.spreads }
with_counted_run (Some ns) k = record { ended = k.ended + 1; unfinished = k.unfinished; spreads = spreads_with k.spreads ns }

-- what is counted of one run under choices
abbrev pub counted_once : Litmus → ProtocolKind → Configuration → List Choice → Counted
counted_once t kind c choices = with_counted_run (numbers_under t kind c choices) no_runs_counted

-- the first `count` choices of a seed, those of `seed N M` in a choice text
abbrev pub choices_of : Litmus → ℕ → ℕ → List Choice
choices_of t count seed = seeded_choices (length t.programs) seed count

-- what is counted of so many runs, each with its numbers if it ended
abbrev pub counted_of : (ℕ → Option (List ℕ)) → ℕ → Counted
counted_of runs zero = no_runs_counted
counted_of runs (suc n) = with_counted_run (runs n) (counted_of runs n)

-- the numbers of the runs of a first seed and of those after it
abbrev pub seeded_numbers : Litmus → ProtocolKind → Configuration → ℕ → ℕ → ℕ → Option (List ℕ)
seeded_numbers t kind c count from n = numbers_under t kind c (choices_of t count (from + n))

-- what is counted of the runs of a plan, one for each seed
abbrev pub counted_by : Litmus → ProtocolKind → Configuration → Plan → Counted
counted_by t kind c plan = counted_of (seeded_numbers t kind c plan.length plan.from) plan.seeds
