-- The answer of `why`: a refutation of what the test asks, an execution in which it is so, or that there can be more cases than may be told
-- apart.
use Rattle.std.specs.Prelude.{◌≡◌, ◌<◌, ℕ, Bool, true, false, List}
use Rattle.tso_cli.specs.Vocabulary.{Choice, Entry, is_as_claimed, LeadTo, Litmus}
use Rattle.refutation_laws.specs.Refutations.{asked_claim}
use Rattle.refutation_laws.specs.Models.{IsMet, depth_of}
use Rattle.lemma_refutations.specs.Refutations.{Lemma, Node, refutes}
use Rattle.found_reasons.specs.Reasons.{most_cases}
use Rattle.search_report.specs.PrintedReasons.{ShowsExecution, unfinished_cases_in}
use Rattle.search_report.specs.RefutationReports.{refutation_in}
use Rattle.command_line.specs.Explanation.{Explanation}
use Rattle.tso_cli.specs.declared.answer.Status.{Status}
use Rattle.tso_cli.specs.declared.answer.Status.TheVariants.{Unended}
use Rattle.tso_cli.specs.Verdicts.{status_of_verdict}

-- what was printed is an execution of the model in which what the test asks is so, with choices that lead there at the model's
-- depth: none of them stalls, and none is left over
pub record IsAllowedAnswer (t : Litmus) (e : Explanation) (json : Bool) (out : List ℕ) : Type 0 where
  pub order : List Entry
  pub choices : List Choice
  pub met : IsMet e.model t (asked_claim t.condition) order
  pub lead : LeadTo t (depth_of e.model) choices order
  pub shown : ShowsExecution json e.model t order choices out

-- the answer of `why` to a test: which of the refutations is printed, or which of the executions, no clause says
pub data IsWhyAnswer (t : Litmus) (e : Explanation) (json assert : Bool) : List ℕ → Status → Type 0 where
  never : (lemmas : List Lemma) (tree : List Node) → refutes e.model t (asked_claim t.condition) lemmas tree ≡ true
      → IsWhyAnswer t e json assert (refutation_in json e.model t lemmas tree) (status_of_verdict assert (is_as_claimed t.condition false))
  allowed : (out : List ℕ) → IsAllowedAnswer t e json out
      → IsWhyAnswer t e json assert out (status_of_verdict assert (is_as_claimed t.condition true))
  too_many : e.cases < most_cases t
      → IsWhyAnswer t e json assert (unfinished_cases_in json t e.cases) Unended
