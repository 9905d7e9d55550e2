-- The same as a JSON object. Its objects have their keys in the order of their bytes. (This project's profile.)
use Rattle.std.specs.Prelude.{ℕ, zero, suc, ◌+◌, ◌*◌, ◌==◌, if◌then◌else◌, List, [], ◌∷◌, Option, Some, None, codes, length, slice_index_or}
use Rattle.serde_json.specs.Data.{Data, array, null, object, string, Members, member, no_members, put}
use Rattle.serde_json.specs.View.{items_of}
use Rattle.serde_json.specs.Written.{compact_text}
use Rattle.tso_terms.specs.Litmus.{Litmus}
use Rattle.protocol_tables.specs.declared.kind.ProtocolKind.{ProtocolKind}
use Rattle.multiprocessor.specs.Configuration.{Configuration}
use Rattle.scheduler.specs.Plan.{Plan}
use Rattle.tso_report.specs.Report.{line}
use Rattle.tso_report.specs.Json.{count, machine_value}
use Rattle.cache_counts.specs.Counted.{Counted}
use Rattle.cache_counts.specs.declared.spread.Spread.{Spread}
use Rattle.counts_report.specs.Printed.{count_names, no_spread}

-- one number over the runs
abbrev pub spread_value : Spread → Data
spread_value s =
    object (member (codes "greatest") (count s.greatest)
    (member (codes "least") (count s.least)
    (member (codes "sum") (count s.sum) no_members)))

-- the numbers from this place on, each under its name
abbrev pub spreads_members : ℕ → List (List ℕ) → List Spread → Members
spreads_members place [] spreads = no_members
spreads_members place (name ∷ names) spreads =
    put name (spread_value (slice_index_or spreads place no_spread)) (spreads_members (place + 1) names spreads)

abbrev pub core_value : ℕ → List Spread → Data
core_value core spreads = object (spreads_members (12 * core) count_names spreads)

-- a value for each of so many cores, from this one on
abbrev pub core_values : ℕ → ℕ → List Spread → List Data
core_values core zero spreads = []
core_values core (suc cores) spreads = core_value core spreads ∷ core_values (core + 1) cores spreads

-- a value for each core of a test; `null` where no run ended
abbrev pub counted_cores_value : Litmus → Counted → Data
counted_cores_value t k = if k.ended == 0 then null else array (items_of (core_values 0 (length t.programs) k.spreads))

-- how many runs ended and how many didn't, and of a plan which seeds they had
abbrev pub runs_value : Option Plan → Counted → Data
runs_value None k =
    object (member (codes "ended") (count k.ended)
    (member (codes "unfinished") (count k.unfinished) no_members))
runs_value (Some p) k =
    object (member (codes "ended") (count k.ended)
    (member (codes "from") (count p.from)
    (member (codes "length") (count p.length)
    (member (codes "seeds") (count p.seeds)
    (member (codes "unfinished") (count k.unfinished) no_members)))))

abbrev pub counted_value : Litmus → ProtocolKind → Configuration → Option Plan → Counted → Data
counted_value t kind c plan k =
    object (member (codes "cores") (counted_cores_value t k)
    (member (codes "machine") (machine_value kind c)
    (member (codes "runs") (runs_value plan k)
    (member (codes "test") (string t.name) no_members))))

-- what is printed: the compact text of the value, on one line
abbrev pub json_counts : Litmus → ProtocolKind → Configuration → Option Plan → Counted → List ℕ
json_counts t kind c plan k = line (compact_text (counted_value t kind c plan k))
