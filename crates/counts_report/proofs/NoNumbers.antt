-- Where no run ended the numbers have no part in what is printed as JSON.
use Rattle.std.proofs.Common.{◌≡◌, ℕ, List, Option, None, Some, codes, refl, ap}
use Rattle.serde_json.specs.Data.{Data, member, no_members, null, object, string}
use Rattle.serde_json.specs.Written.{compact_text}
use Rattle.tso_terms.specs.Litmus.{Litmus}
use Rattle.protocol_tables.specs.declared.kind.ProtocolKind.{ProtocolKind}
use Rattle.multiprocessor.specs.Configuration.{Configuration}
use Rattle.scheduler.specs.Plan.{Plan}
use Rattle.tso_report.specs.Json.{machine_value}
use Rattle.tso_report.specs.Report.{line}
use Rattle.cache_counts.specs.Counted.{Counted}
use Rattle.cache_counts.specs.declared.spread.Spread.{Spread}
use Rattle.counts_report.specs.Json.{json_counts, runs_value}

-- so many runs of which none ended
abbrev none_ended : ℕ → List Spread → Counted
none_ended unfinished spreads = record { ended = 0; unfinished = unfinished; spreads = spreads }

same-runs : (plan : Option Plan) (unfinished : ℕ) (ss ts : List Spread)
    → runs_value plan (none_ended unfinished ss) ≡ runs_value plan (none_ended unfinished ts)
same-runs None unfinished ss ts = refl
same-runs (Some p) unfinished ss ts = refl

pub no-numbers : (t : Litmus) (kind : ProtocolKind) (c : Configuration) (plan : Option Plan) (unfinished : ℕ) (ss ts : List Spread)
    → json_counts t kind c plan (record { ended = 0; unfinished = unfinished; spreads = ss })
    ≡ json_counts t kind c plan (record { ended = 0; unfinished = unfinished; spreads = ts })
no-numbers t kind c plan unfinished ss ts =
    ap (λ (runs : Data). line (compact_text (object (member (codes "cores") null (member (codes "machine") (machine_value kind c)
    (member (codes "runs") runs (member (codes "test") (string t.name) no_members)))))))
    (same-runs plan unfinished ss ts)
