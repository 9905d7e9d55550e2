-- What `counts` prints: the test and the machine, how many runs ended and how many didn't, and a line for each core, of each of its
-- numbers the sum, the least and the greatest over the runs that ended. Where none ended there is no such line. (This project's
-- profile.)
use Rattle.std.specs.Prelude.{ℕ, zero, suc, ◌+◌, ◌*◌, ◌==◌, if◌then◌else◌, List, [], ◌∷◌, ◌++◌, Option, Some, None, codes, length, slice_index_or}
use Rattle.std.specs.Fmt.{decimal}
use Rattle.tso_terms.specs.Litmus.{Litmus}
use Rattle.protocol_tables.specs.declared.kind.ProtocolKind.{ProtocolKind}
use Rattle.multiprocessor.specs.Configuration.{Configuration}
use Rattle.scheduler.specs.Plan.{Plan}
use Rattle.tso_report.specs.Report.{head, line}
use Rattle.cache_counts.specs.Counted.{Counted}
use Rattle.cache_counts.specs.declared.spread.Spread.{Spread}

-- what a core's numbers are called: the six counts of a `Cache` line, its requests GetS and GetM, the copies of other cores that
-- these turned to I, the lines that another core's cache supplied and that memory did, and the lines written to memory for it
unfoldable pub count_names : List (List ℕ)
count_names =
    codes "hits" ∷ (codes "misses" ∷ (codes "upgrades" ∷ (codes "forwards" ∷ (codes "write_backs" ∷ (codes "flushes" ∷
    (codes "get_s" ∷ (codes "get_m" ∷ (codes "invalidations" ∷ (codes "from_caches" ∷ (codes "from_memory" ∷ (codes "to_memory" ∷ [])))))))))))

abbrev pub no_spread : Spread
no_spread = record { sum = 0; least = 0; greatest = 0 }

-- ` from=F seeds=N length=L`; nothing where the choices were given
abbrev pub plan_text : Option Plan → List ℕ
plan_text None = []
plan_text (Some p) =
    codes " from=" ++ (decimal p.from ++ (codes " seeds=" ++ (decimal p.seeds ++ (codes " length=" ++ decimal p.length))))

-- `Runs from=F seeds=N length=L ended=E unfinished=U`
abbrev pub runs_line : Option Plan → Counted → List ℕ
runs_line plan k =
    codes "Runs" ++ (plan_text plan ++ (codes " ended=" ++ (decimal k.ended ++ (codes " unfinished=" ++ line (decimal k.unfinished)))))

-- ` hits=SUM/LEAST/GREATEST`
abbrev pub spread_text : List ℕ → Spread → List ℕ
spread_text name s =
    codes " " ++ (name ++ (codes "=" ++ (decimal s.sum ++ (codes "/" ++ (decimal s.least ++ (codes "/" ++ decimal s.greatest))))))

-- the numbers from this place on, by these names
abbrev pub spreads_text : ℕ → List (List ℕ) → List Spread → List ℕ
spreads_text place [] spreads = []
spreads_text place (name ∷ names) spreads =
    spread_text name (slice_index_or spreads place no_spread) ++ spreads_text (place + 1) names spreads

-- `Counts Pc hits=SUM/LEAST/GREATEST misses=..`
abbrev pub core_line : ℕ → List Spread → List ℕ
core_line core spreads = codes "Counts P" ++ (decimal core ++ line (spreads_text (12 * core) count_names spreads))

-- a line for each of so many cores, from this one on
abbrev pub core_lines : ℕ → ℕ → List Spread → List ℕ
core_lines core zero spreads = []
core_lines core (suc cores) spreads = core_line core spreads ++ core_lines (core + 1) cores spreads

-- the lines of the cores of a test
abbrev pub counted_lines : Litmus → Counted → List ℕ
counted_lines t k = if k.ended == 0 then [] else core_lines 0 (length t.programs) k.spreads

-- what is printed of the runs of a plan, or of the one run whose choices were given
abbrev pub counts_text : Litmus → ProtocolKind → Configuration → Option Plan → Counted → List ℕ
counts_text t kind c plan k = head t kind c ++ (runs_line plan k ++ counted_lines t k)
