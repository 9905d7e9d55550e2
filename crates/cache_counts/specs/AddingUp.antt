-- What a core's numbers of a run that ended say of each other. On a split bus a request is counted when the core asks, and its access when
-- it is completed: so this is said of runs that ended. (Primer, chapters 6 and 7; what is counted when is this project's profile.)
use Rattle.std.specs.Prelude.{ℕ, ◌≡◌, ◌+◌, ◌*◌, ◌<◌, ◌==◌, true, if◌then◌else◌, List, [], ◌∷◌, length, Option, Some, None, slice_get, slice_index_or}
use Rattle.tso_terms.specs.Litmus.{Litmus}
use Rattle.tso_terms.specs.declared.choice.Choice.{Choice}
use Rattle.protocol_tables.specs.Tables.{table_of}
use Rattle.protocol_tables.specs.declared.kind.ProtocolKind.{ProtocolKind}
use Rattle.multiprocessor.specs.Configuration.{Configuration}
use Rattle.multiprocessor.specs.Statistics.{no_counts}
use Rattle.multiprocessor.specs.declared.accesses.CacheUse.{CacheUse}
use Rattle.multiprocessor.specs.declared.accesses.CacheUse.TheVariants.{Asked, Forwarded, Through, Unused}
use Rattle.multiprocessor.specs.declared.counts.Counts.{Counts}
use Rattle.machine_runs.specs.Runs.{AnswersFit, counts_under, run_under}
use Rattle.scheduler.specs.Plan.{Plan}
use Rattle.cache_counts.specs.Counted.{counted_by}
use Rattle.cache_counts.specs.Runs.{AnswersFitFrom}
use Rattle.cache_counts.specs.Traffic.{traffic_of}
use Rattle.cache_counts.specs.Uses.{uses_of}
use Rattle.cache_counts.specs.declared.noting.CoreUse.{CoreUse}
use Rattle.cache_counts.specs.declared.spread.Spread.{Spread}
use Rattle.cache_counts.specs.declared.traffic.Traffic.{Traffic}

-- 1 for an access of the core's cache: one that is made whole, or one that was asked for and is completed
abbrev pub accesses_in : CacheUse → ℕ
accesses_in Unused = 0
accesses_in Forwarded = 0
accesses_in (Asked request) = 0
accesses_in (Through report) = 1

-- over these choices, the sum of what each choice of the core comes to
abbrev pub sum_of_uses : (CacheUse → ℕ) → ℕ → List CoreUse → ℕ
sum_of_uses of_use core [] = 0
sum_of_uses of_use core (u ∷ us) = (if u.core.0 == core then of_use u.how else 0) + sum_of_uses of_use core us

-- a core's hits, misses and upgrades are its accesses; each miss and each upgrade is one request, to read a line or to write it; and
-- each miss has its line from another core's cache or from memory
pub record AddUp (accesses : ℕ) (c : Counts) (x : Traffic) : Type 0 where
  pub made : c.hits + c.misses + c.upgrades ≡ accesses
  pub requested : c.misses + c.upgrades ≡ x.get_s + x.get_m
  pub supplied : c.misses ≡ x.from_caches + x.from_memory

-- this is so of each core in each run that ended along which the caches answered as caches may
abbrev pub CountsAddUp : Type 0
CountsAddUp =
    (t : Litmus) (kind : ProtocolKind) (c : Configuration) (choices : List Choice) (core : ℕ)
    → AnswersFit t kind c choices → (run_under t kind c choices).ended ≡ true → core < length t.programs
    → AddUp (sum_of_uses accesses_in core (uses_of (table_of kind) c t choices)) (slice_index_or (counts_under t kind c choices) core no_counts)
    (traffic_of (table_of kind) core (uses_of (table_of kind) c t choices))

-- the sum of a number over the runs; 0 where there is none
abbrev pub sum_in : Option Spread → ℕ
sum_in None = 0
sum_in (Some s) = s.sum

-- that of the number at this place of a core's twelve, in the order in which they are printed, from 0 on
abbrev pub printed_sum : List Spread → ℕ → ℕ → ℕ
printed_sum spreads core place = sum_in (slice_get spreads (12 * core + place))

-- so the sums over the runs add up too: misses (1) and upgrades (2) to the requests GetS (6) and GetM (7), and the lines from caches (9) and
-- from memory (10) to the misses
pub record SumsAddUp (spreads : List Spread) (core : ℕ) : Type 0 where
  pub requests : printed_sum spreads core 1 + printed_sum spreads core 2 ≡ printed_sum spreads core 6 + printed_sum spreads core 7
  pub supplies : printed_sum spreads core 1 ≡ printed_sum spreads core 9 + printed_sum spreads core 10

-- this is so of each core in the runs of a plan along which the caches answered as caches may
abbrev pub SumsOfPlansAddUp : Type 0
SumsOfPlansAddUp =
    (t : Litmus) (kind : ProtocolKind) (c : Configuration) (plan : Plan) (core : ℕ)
    → AnswersFitFrom t kind c plan.length plan.from plan.seeds → core < length t.programs → SumsAddUp (counted_by t kind c plan).spreads core
