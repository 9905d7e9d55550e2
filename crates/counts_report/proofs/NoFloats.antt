-- The values of what was counted have no float, so that their text is known.
use Rattle.std.proofs.Common.{◌≡◌, ◌+◌, ◌*◌, ◌==◌, ℕ, zero, suc, Bool, true, false, if◌then◌else◌, List, [], ◌∷◌, Option, Some, None}
use Rattle.std.proofs.Common.{length, slice_index_or, refl}
use Rattle.std.specs.Prelude.{codes}
use Rattle.serde_json.specs.Data.{array, null, string, Members, member, no_members}
use Rattle.serde_json.specs.View.{items_of}
use Rattle.serde_json.specs.Written.{has_float, items_have_float, members_have_float}
use Rattle.tso_terms.specs.Litmus.{Litmus}
use Rattle.basic_laws.specs.Types.{Bus, Atomic, Split}
use Rattle.protocol_tables.specs.declared.kind.ProtocolKind.{ProtocolKind}
use Rattle.multiprocessor.specs.Configuration.{Configuration}
use Rattle.scheduler.specs.Plan.{Plan}
use Rattle.tso_report.specs.Json.{configuration_members, machine_value, with_bus}
use Rattle.tso_report.proofs.NoFloats.{neither, one_more}
use Rattle.cache_counts.specs.Counted.{Counted}
use Rattle.cache_counts.specs.declared.spread.Spread.{Spread}
use Rattle.counts_report.specs.Printed.{count_names, no_spread}
use Rattle.counts_report.specs.Json.{core_value, core_values, counted_cores_value, runs_value, spread_value, spreads_members}

spreads : (place : ℕ) (names : List (List ℕ)) (ss : List Spread) → members_have_float (spreads_members place names ss) ≡ false
spreads place [] ss = refl
spreads place (name ∷ names) ss =
    one_more name (spread_value (slice_index_or ss place no_spread)) (spreads_members (place + 1) names ss) refl (spreads (place + 1) names ss)

each-core : (core cores : ℕ) (ss : List Spread) → items_have_float (items_of (core_values core cores ss)) ≡ false
each-core core zero ss = refl
each-core core (suc cores) ss =
    neither (has_float (core_value core ss))
    (items_have_float (items_of (core_values (core + 1) cores ss))) (spreads (12 * core) count_names ss)
    (each-core (core + 1) cores ss)

all-cores : (t : Litmus) (k : Counted) → has_float (counted_cores_value t k) ≡ false
all-cores t k = by_end (k.ended == 0)
  where
    by_end : (b : Bool) → has_float (if b then null else array (items_of (core_values 0 (length t.programs) k.spreads))) ≡ false
    by_end true = refl
    by_end false = each-core 0 (length t.programs) k.spreads

machine : (kind : ProtocolKind) (c : Configuration) → has_float (machine_value kind c) ≡ false
machine kind c = by_bus c.bus
  where
    by_bus : (bus : Bus) → members_have_float (with_bus bus (configuration_members kind c)) ≡ false
    by_bus Atomic = refl
    by_bus Split = refl

runs : (plan : Option Plan) (k : Counted) → has_float (runs_value plan k) ≡ false
runs None k = refl
runs (Some p) k = refl

-- the members of what is printed of a test of this name
abbrev pub named-members : Litmus → ProtocolKind → Configuration → Option Plan → Counted → List ℕ → Members
named-members t kind c plan k name =
    member (codes "cores") (counted_cores_value t k)
    (member (codes "machine") (machine_value kind c)
    (member (codes "runs") (runs_value plan k)
    (member (codes "test") (string name) no_members)))

pub no-float : (t : Litmus) (kind : ProtocolKind) (c : Configuration) (plan : Option Plan) (k : Counted) (name : List ℕ)
    → members_have_float (named-members t kind c plan k name) ≡ false
no-float t kind c plan k name =
    neither (has_float (counted_cores_value t k)) _ (all-cores t k)
    (neither (has_float (machine_value kind c)) _ (machine kind c)
    (neither (has_float (runs_value plan k)) _ (runs plan k) refl))
