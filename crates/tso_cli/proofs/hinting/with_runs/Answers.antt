use Rattle.tso_cli.proofs.Vocabulary.{ℕ, List, ◌++◌, ◌∙◌, ap, string_bytes}
use Rattle.tso_cli.proofs.hinting.with_runs.Goals as goal

pub returns : goal.returns
returns c = (
  string_bytes c.args.hint,
  string_bytes c.in_ok-runs.runs,
  c.requires,
  c.in_ok-runs.ensures,
  c.in_ok-push_str.ensures.bytes ∙ ap (λ (runs : List ℕ). string_bytes c.args.hint ++ runs) c.deref.ensures,
)
