-- The text of a sweep's answer, put together.
use Rattle.tso_cli.proofs.Vocabulary.{◌≡◌, ◌∙◌, ℕ, List, ◌++◌, ap, Litmus, ProtocolKind, Configuration, head, RunCounts, tally_text}
use Rattle.scheduler.specs.Plan.{Plan}
use Rattle.tso_cli.specs.Sweep.{sweep_lines}
use Rattle.sweep_runs.specs.Counting.{sweep_counts}

-- the text that is put together is that of the sweep
pub lines-of : (t u : Litmus) (kind : ProtocolKind) (c : Configuration) (plan : Plan) (counts : RunCounts) (out first told : List ℕ) (from count : ℕ)
    → out ≡ first ++ told
    → first ≡ head t kind c
    → told ≡ tally_text u counts from count
    → u ≡ t
    → counts ≡ sweep_counts t kind c plan
    → from ≡ plan.from
    → count ≡ plan.length
    → out ≡ sweep_lines t kind c plan (sweep_counts t kind c plan)
lines-of t u kind c plan counts out first told from count joined is_first is_told test same is_from is_count =
    joined ∙ ap (λ (a : List ℕ). a ++ told) is_first
    ∙ ap (λ (b : List ℕ). head t kind c ++ b)
    (is_told ∙ ap (λ (v : Litmus). tally_text v counts from count) test ∙ ap (λ (k : RunCounts). tally_text t k from count) same
    ∙ ap (λ (n : ℕ). tally_text t (sweep_counts t kind c plan) n count) is_from
    ∙ ap (λ (n : ℕ). tally_text t (sweep_counts t kind c plan) plan.from n) is_count)
