-- What `why` prints: why what a test asks is so in no execution of the model, or an execution in which it is, and how to get there.
-- (Primer, chapter 4, for the axioms of TSO, and chapter 3 for sequential consistency; Herding Cats, section 4, for the refutation.)
use Rattle.std.specs.Prelude.{ℕ, ◌<◌, ◌≡◌, Bool, true, List, length, Option, Some, None}
use Rattle.tso_cli.specs.Vocabulary.{Choice, Condition, Entry, Explanation, final_registers, final_words, LeadTo, Litmus}
use Rattle.tso_cli.specs.Vocabulary.{Model, most_cases, printed_choices, run, refutation_in, ShowsExecution, SpellsChoices, truth_of}
use Rattle.tso_cli.specs.Vocabulary.{unfinished_cases_in}
use Rattle.tso_terms.specs.FlatMachine.{registers_in}
use Rattle.tso_laws.specs.EndedRuns.{End}
use Rattle.refutation_laws.specs.Models.{IsExecutionOf, depth_of}
use Rattle.refutation_laws.specs.Refutations.{asked_claim}
use Rattle.lemma_refutations.specs.Refutations.{Lemma, Node, refutes}
use Rattle.refutation_laws.specs.declared.model.Model.TheVariants.{Tso, Sequential}
use Rattle.search_report.specs.ReasonText.{truth_asked}

-- what the condition asks is so in this final state: its proposition is true, or of `forall` false; without a condition anything is
abbrev pub IsSoIn : Option Condition → List (List ℕ) → List ℕ → Type 0
IsSoIn None registers memory = Unit {0}
IsSoIn (Some c) registers memory = truth_of registers memory c.claim ≡ truth_asked c.quantifier

-- the depths at which all runs are executions of the model
abbrev pub IsDepthOf : Model → ℕ → Type 0
IsDepthOf Tso depth = Unit {0}
IsDepthOf Sequential depth = depth ≡ 0

-- what was printed is a refutation of what the test asks: it is so at the end of no execution of the model, and of no run that ends;
-- and who reads the refutation can tell by the definition alone that it refutes
pub record PrintsRefutation (t : Litmus) (model : Model) (json : Bool) (out : List ℕ) : Type 0 where
  pub lemmas : List Lemma
  pub tree : List Node
  pub printed : out ≡ refutation_in json model t lemmas tree
  pub refuted : refutes model t (asked_claim t.condition) lemmas tree ≡ true
  pub executions : (order : List Entry) → IsExecutionOf model t order → ¬ IsSoIn t.condition (final_registers t order) (final_words t order)
  pub runs : (depth : ℕ) (choices : List Choice) → IsDepthOf model depth → End t depth choices
      → ¬ IsSoIn t.condition (registers_in (run t depth choices).state) (run t depth choices).state.memory

-- what was printed is the candidate of an execution of the model at whose end it is so, with choices that lead to that very order at
-- the model's depth, none of which stalls or is left over; and they can be read again, as `run` reads them
pub record PrintsExecutionOf (t : Litmus) (model : Model) (json : Bool) (out : List ℕ) : Type 0 where
  pub order : List Entry
  pub choices : List Choice
  pub execution : IsExecutionOf model t order
  pub holds : IsSoIn t.condition (final_registers t order) (final_words t order)
  pub lead : LeadTo t (depth_of model) choices order
  pub spelled : SpellsChoices (length t.programs) (printed_choices choices) choices
  pub shown : ShowsExecution json model t order choices out

-- one of these, or, if there can be more cases than may be told apart, one line that says how many may be: then there is no part of a
-- reason, so that nobody takes it for the whole
pub data HeadlineOfReasons (t : Litmus) (e : Explanation) (json : Bool) (out : List ℕ) : Type 0 where
  never : PrintsRefutation t e.model json out → HeadlineOfReasons t e json out
  allowed : PrintsExecutionOf t e.model json out → HeadlineOfReasons t e json out
  too_many : e.cases < most_cases t → out ≡ unfinished_cases_in json t e.cases → HeadlineOfReasons t e json out
