-- What `outcomes` prints of a search that met its limit: the limit, and the final states that it had met, those that look alike
-- once, each with choices that lead there. They are some of those that there are: the line `Unfinished` before them says so. A
-- verdict is there only where one of them decides it, whatever the others are.
use Rattle.std.specs.Prelude.{ℕ, ◌≡◌, Bool, true, false, List, [], ◌++◌, length, Option, codes}
use Rattle.std.specs.Fmt.{decimal}
use Rattle.serde_json.specs.Data.{Data, null, string, object, no_members, member}
use Rattle.serde_json.specs.Written.{compact_text}
use Rattle.tso_terms.specs.Litmus.{Litmus}
use Rattle.tso_terms.specs.Condition.{Condition}
use Rattle.explorer.specs.declared.final_states.FinalState.{FinalState}
use Rattle.tso_report.specs.Report.{line}
use Rattle.tso_report.specs.Json.{count}
use Rattle.tso_report.specs.declared.named.Named.{Named}
use Rattle.search_report.specs.Verdict.{verdict_line, outcomes_verdict_value}
use Rattle.search_report.specs.Outcomes.{Outcome, ArePrinted, is_met_in, outcome_lines}
use Rattle.search_report.specs.OutcomesJson.{states_value}

-- ---- as lines of text

-- `Unfinished states=N`: the search met its limit
abbrev pub unfinished_outcomes_line : ℕ → List ℕ
unfinished_outcomes_line limit = codes "Unfinished states=" ++ line (decimal limit)

-- `Met 2`: how many states are below
abbrev pub met_line : ℕ → List ℕ
met_line count = codes "Met " ++ line (decimal count)

-- the verdict, where what the condition asks for is so in one of the states; else nothing is decided
abbrev pub decided_line : Option Condition → Bool → List ℕ
decided_line condition true = verdict_line condition true
decided_line condition false = []

abbrev pub met_text : Litmus → List Named → ℕ → List Outcome → List ℕ
met_text t names limit outcomes =
    unfinished_outcomes_line limit
    ++ (met_line (length outcomes) ++ (outcome_lines t names outcomes ++ decided_line t.condition (is_met_in t.condition outcomes)))

-- ---- as JSON

-- the verdict, or `null` where nothing is decided
abbrev pub decided_value : Option Condition → Bool → Data
decided_value condition true = outcomes_verdict_value condition true
decided_value condition false = null

abbrev pub met_value : Litmus → List Named → ℕ → List Outcome → Data
met_value t names limit outcomes =
    object (member (codes "met") (states_value t names outcomes)
    (member (codes "test") (string t.name)
    (member (codes "unfinished") (object (member (codes "states") (count limit) no_members))
    (member (codes "verdict") (decided_value t.condition (is_met_in t.condition outcomes)) no_members))))

abbrev pub met_json : Litmus → List Named → ℕ → List Outcome → List ℕ
met_json t names limit outcomes = line (compact_text (met_value t names limit outcomes))

-- ---- in either form

abbrev pub unfinished_search_in : Bool → Litmus → List Named → ℕ → List Outcome → List ℕ
unfinished_search_in false t names limit outcomes = met_text t names limit outcomes
unfinished_search_in true t names limit outcomes = met_json t names limit outcomes

-- what was printed are these final states by the values at these names, those that look alike once; and it was told whether what the
-- condition asks for is so in one of them
pub record PrintsMet (t : Litmus) (names : List Named) (limit : ℕ) (json : Bool) (finals : List FinalState) (out : List ℕ) (is_met : Bool) : Type 0 where
  pub outcomes : List Outcome
  pub printed : ArePrinted names finals outcomes
  pub text : out ≡ unfinished_search_in json t names limit outcomes
  pub met : is_met ≡ is_met_in t.condition outcomes
