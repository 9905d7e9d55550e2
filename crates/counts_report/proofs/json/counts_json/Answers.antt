use Rattle.std.proofs.Common.{◌≡◌, ℕ, List, subst, string_bytes}
use Rattle.std.specs.Prelude.{IfOk}
use Rattle.serde_json.specs.Data.{object}
use Rattle.serde_json.specs.Written.{compact_text}
use Rattle.tso_report.specs.Report.{line}
use Rattle.cache_counts.specs.Runs.{runs_counted}
use Rattle.counts_report.proofs.NoFloats.{named-members, no-float}
use Rattle.counts_report.proofs.json.counts_json.Goals as goal

pub line-requires : goal.line-requires
line-requires c =
    let k = runs_counted c.args.runs.now in (
      named-members c.args.test.now c.args.protocol c.args.config c.args.plan k c.name.result.now,
      c.member-4.ensures _ _ (c.member-3.ensures _ _
          (c.member-2.ensures _ _ (c.member.ensures _ _ c.new.ensures c.cores_value.ensures) c.machine_value.ensures)
          c.runs_value.ensures)
          c.word_value.ensures,
      no-float c.args.test.now c.args.protocol c.args.config c.args.plan k c.name.result.now,
    )

pub returns : goal.returns
returns c =
    let k = runs_counted c.args.runs.now in
    subst (λ (name : List ℕ).
    IfOk c.line.result (λ text.
    string_bytes text ≡ line (compact_text (object (named-members c.args.test.now c.args.protocol c.args.config c.args.plan k name)))))
    c.name.ensures
    (c.line.ensures _ (c.member-4.ensures _ _ (c.member-3.ensures _ _
    (c.member-2.ensures _ _ (c.member.ensures _ _ c.new.ensures c.cores_value.ensures) c.machine_value.ensures)
    c.runs_value.ensures)
    c.word_value.ensures))
