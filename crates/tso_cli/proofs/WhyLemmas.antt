-- What the answer of `why` means.
use Rattle.tso_cli.proofs.Vocabulary.{◌≡◌, ℕ, Bool, true, false, not, List, [], length, Option, Some, None, refl, sym, ap, subst, arith}
use Rattle.tso_cli.proofs.Vocabulary.{append-nil, Litmus, IsTest, Claim, Condition, NamesExist, truth_of, final_words, final_registers}
use Rattle.tso_cli.proofs.Vocabulary.{registers_in, run, Choice, Entry, LeadTo, End, IsExecutionOf, depth_of, SpellsChoices}
use Rattle.tso_cli.proofs.Vocabulary.{printed_choices, Explanation, IsWhyAnswer, Status, PrintsRefutation, PrintsExecutionOf}
use Rattle.tso_cli.proofs.Vocabulary.{HeadlineOfReasons}
use Rattle.basic_laws.specs.Types.{Quantifier, Forall}
use Rattle.refutation_laws.specs.Refutations.{asked_claim}
use Rattle.lemma_refutations.specs.Refutations.{Lemma, Node, refutes}
use Rattle.refutation_laws.specs.declared.model.Model.{Model}
use Rattle.refutation_laws.specs.declared.model.Model.TheVariants.{Tso, Sequential}
use Rattle.search_report.specs.ReasonText.{truth_asked}
use Rattle.search_report.specs.RefutationReports.{refutation_in}
use Rattle.tso_cli.specs.Why.{IsAllowedAnswer, never, allowed, too_many}
use Rattle.tso_cli.specs.WhyHeadline.{IsSoIn, IsDepthOf, never, allowed, too_many}
use Rattle.tso_cli.proofs.WitnessLemmas.{Reaching, choices-few}

-- what the crates below say of refutations
pub record Refuting : Type 0 where
  pub names : (t : Litmus) → IsTest t → NamesExist (length t.programs) (length t.words) (asked_claim t.condition)
  pub executions : (model : Model) (t : Litmus) (claim : Claim) (lemmas : List Lemma) (tree : List Node) (order : List Entry)
      → NamesExist (length t.programs) (length t.words) claim → refutes model t claim lemmas tree ≡ true → IsExecutionOf model t order
      → truth_of (final_registers t order) (final_words t order) claim ≡ false
  pub tso : (t : Litmus) (claim : Claim) (lemmas : List Lemma) (tree : List Node) (depth : ℕ) (choices : List Choice)
      → IsTest t → NamesExist (length t.programs) (length t.words) claim → refutes Tso t claim lemmas tree ≡ true → End t depth choices
      → truth_of (registers_in (run t depth choices).state) (run t depth choices).state.memory claim ≡ false
  pub sequential : (t : Litmus) (claim : Claim) (lemmas : List Lemma) (tree : List Node) (choices : List Choice)
      → IsTest t → NamesExist (length t.programs) (length t.words) claim → refutes Sequential t claim lemmas tree ≡ true → End t 0 choices
      → truth_of (registers_in (run t 0 choices).state) (run t 0 choices).state.memory claim ≡ false

-- ---- what is asked, as a proposition

not-false : (b : Bool) → not b ≡ true → b ≡ false
not-false false q = refl
not-false true q = absurd (let z : ⊥ = cc in z)

so-when : (condition : Option Condition) (registers : List (List ℕ)) (memory : List ℕ)
    → truth_of registers memory (asked_claim condition) ≡ true
    → IsSoIn condition registers memory
so-when None registers memory q = tt
so-when (Some c) registers memory q = by-quantifier c.quantifier c.claim q
  where
    by-quantifier : (quantifier : Quantifier) (claim : Claim)
        → truth_of registers memory (asked_claim (Some (record { quantifier = quantifier; claim = claim }))) ≡ true
        → truth_of registers memory claim ≡ truth_asked quantifier
    by-quantifier Forall claim q = not-false (truth_of registers memory claim) q
    by-quantifier quantifier claim q = q

true-when : (condition : Option Condition) (registers : List (List ℕ)) (memory : List ℕ)
    → IsSoIn condition registers memory
    → truth_of registers memory (asked_claim condition) ≡ true
true-when None registers memory q = refl
true-when (Some c) registers memory q = by-quantifier c.quantifier c.claim q
  where
    by-quantifier : (quantifier : Quantifier) (claim : Claim) → truth_of registers memory claim ≡ truth_asked quantifier
        → truth_of registers memory (asked_claim (Some (record { quantifier = quantifier; claim = claim }))) ≡ true
    by-quantifier Forall claim q = ap not q
    by-quantifier quantifier claim q = q

never-so : (condition : Option Condition) (registers : List (List ℕ)) (memory : List ℕ)
    → truth_of registers memory (asked_claim condition) ≡ false
    → ¬ IsSoIn condition registers memory
never-so condition registers memory q so = let p = true-when condition registers memory so in let z : ⊥ = cc in z

-- ---- a refutation

no-run : (model : Model) (t : Litmus) (lemmas : List Lemma) (tree : List Node) (depth : ℕ) (choices : List Choice)
    → Refuting
    → IsTest t
    → refutes model t (asked_claim t.condition) lemmas tree ≡ true
    → IsDepthOf model depth → End t depth choices → ¬ IsSoIn t.condition (registers_in (run t depth choices).state) (run t depth choices).state.memory
no-run Tso t lemmas tree depth choices laws test refuted is ended =
    never-so t.condition (registers_in (run t depth choices).state) (run t depth choices).state.memory
    (laws.tso t (asked_claim t.condition) lemmas tree depth choices test (laws.names t test) refuted ended)
no-run Sequential t lemmas tree depth choices laws test refuted is ended =
    subst (λ d. End t d choices → ¬ IsSoIn t.condition (registers_in (run t d choices).state) (run t d choices).state.memory) (sym is)
    (λ over. never-so t.condition (registers_in (run t 0 choices).state) (run t 0 choices).state.memory
    (laws.sequential t (asked_claim t.condition) lemmas tree choices test (laws.names t test) refuted over)) ended

pub refutation-means : (t : Litmus) (model : Model) (json : Bool) (lemmas : List Lemma) (tree : List Node)
    → Refuting
    → IsTest t
    → refutes model t (asked_claim t.condition) lemmas tree ≡ true
    → PrintsRefutation t model json (refutation_in json model t lemmas tree)
refutation-means t model json lemmas tree laws test refuted = record {
  lemmas = lemmas;
  tree = tree;
  printed = refl;
  refuted = refuted;
  executions = λ order execution. never-so t.condition (final_registers t order) (final_words t order)
      (laws.executions model t (asked_claim t.condition) lemmas tree order (laws.names t test) refuted execution);
  runs = λ depth choices is ended. no-run model t lemmas tree depth choices laws test refuted is ended;
}

-- ---- an execution

pub led-choices-spell : (t : Litmus) (depth : ℕ) (choices : List Choice) (order : List Entry) → Reaching → IsTest t → LeadTo t depth choices order
    → SpellsChoices (length t.programs) (printed_choices choices) choices
led-choices-spell t depth choices order reaching test lead =
    let cores = test.cores in
    let few = choices-few t depth choices order reaching test lead in
    subst (λ text. SpellsChoices (length t.programs) text choices) (append-nil (printed_choices choices))
    (reaching.spelled (length t.programs) choices [] (omega arith) lead.cores (omega arith) refl)

pub execution-means : (t : Litmus) (e : Explanation) (json : Bool) (out : List ℕ)
    → Reaching
    → IsTest t
    → IsAllowedAnswer t e json out
    → PrintsExecutionOf t e.model json out
execution-means t e json out reaching test is = record {
  order = is.order;
  choices = is.choices;
  execution = is.met.execution;
  holds = so-when t.condition (final_registers t is.order) (final_words t is.order) is.met.holds;
  lead = is.lead;
  spelled = led-choices-spell t (depth_of e.model) is.choices is.order reaching test is.lead;
  shown = is.shown;
}

pub reasons-mean : (t : Litmus) (e : Explanation) (json assert : Bool) (out : List ℕ) (status : Status) → Reaching → Refuting → IsTest t
    → IsWhyAnswer t e json assert out status → HeadlineOfReasons t e json out
reasons-mean t e json assert _ _ reaching laws test (never lemmas tree refuted) = never (refutation-means t e.model json lemmas tree laws test refuted)
reasons-mean t e json assert _ _ reaching laws test (allowed out is) = allowed (execution-means t e json out reaching test is)
reasons-mean t e json assert _ _ reaching laws test (too_many fewer) = too_many fewer refl
