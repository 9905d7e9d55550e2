-- What `outcomes` prints of a search that ended, in either form: lines of text, or a JSON value on one line. Both show the same states.
use Rattle.std.specs.Prelude.{ℕ, ◌≡◌, Bool, true, false, List}
use Rattle.tso_terms.specs.Litmus.{Litmus}
use Rattle.explorer.specs.declared.final_states.FinalState.{FinalState}
use Rattle.tso_report.specs.declared.named.Named.{Named}
use Rattle.search_report.specs.Verdict.{is_as_claimed}
use Rattle.search_report.specs.Outcomes.{Outcome, ArePrinted, is_met_in, outcomes_text}
use Rattle.search_report.specs.OutcomesJson.{outcomes_json}

abbrev pub outcomes_in : Bool → Litmus → List Named → ℕ → List Outcome → List ℕ
outcomes_in false t names depth outcomes = outcomes_text t names depth outcomes
outcomes_in true t names depth outcomes = outcomes_json t names depth outcomes

-- what was printed are these final states by the values at these names, those that look alike once; and it was told whether the condition
-- is as it claims
pub record PrintsOutcomes (t : Litmus) (names : List Named) (depth : ℕ) (json : Bool) (finals : List FinalState) (out : List ℕ)
    (as_claimed : Bool) : Type 0 where
  pub outcomes : List Outcome
  pub printed : ArePrinted names finals outcomes
  pub text : out ≡ outcomes_in json t names depth outcomes
  pub verdict : as_claimed ≡ is_as_claimed t.condition (is_met_in t.condition outcomes)
