-- What the headline leaves open: two texts of which it holds. Where it leaves one text alone, nothing that is printed can
-- go wrong unnoticed.
use Rattle.std.specs.Prelude.{ℕ, ◌≡◌, ◌⊎◌, Bool, true, false, List, ◌++◌, length}
use Rattle.tso_cli.specs.Vocabulary.{Choice, Configuration, Entry, head, json_ended, json_report, LeadTo, Litmus, names_shown, Outcome}
use Rattle.tso_cli.specs.Vocabulary.{outcomes_in, OutcomesAreAlike, ProtocolKind, Search, Settings, ShownRun, SpellsChoices, trace_text}
use Rattle.tso_cli.specs.OneSearch.{ShowsSomeStates}
use Rattle.tso_cli.specs.RunTexts.{report_in}
use Rattle.trace_report.specs.Shown.{ShownStep as Step}
use Rattle.command_line.specs.declared.settings.Settings.TheVariants as settings

-- its answer is one text; of `outcomes` it isn't said which of the choices that lead to a state are printed, nor, where the machine can
-- reach more states than may be kept, whether some states are printed or all; of `why` not which refutation or which execution is printed
abbrev pub GivesOneAnswer : Settings → Type 0
GivesOneAnswer (settings.Outcomes search set json assert) = ⊥
GivesOneAnswer (settings.Why plan set json assert) = ⊥
GivesOneAnswer _ = Unit {0}

-- two reports show the same order, registers, memory and verdict of one test; the counts of choices and of accesses may differ
pub record ShowOneExecution (kind : ProtocolKind) (c : Configuration) (json : Bool) (out other : List ℕ) : Type 0 where
  pub t : Litmus
  pub shown : ShownRun
  pub again : ShownRun
  pub first : out ≡ report_in json t kind c shown
  pub second : other ≡ report_in json t kind c again
  pub order : shown.order ≡ again.order
  pub registers : shown.registers ≡ again.registers
  pub memory : shown.memory ≡ again.memory
  pub holds : shown.holds ≡ again.holds

-- two texts of `run` are one text, or such reports
abbrev pub AreOneRun : ProtocolKind → Configuration → Bool → List ℕ → List ℕ → Type 0
AreOneRun kind c json out other = (out ≡ other) ⊎ ShowOneExecution kind c json out other

-- two texts of `trace` tell the same steps of one test; without them they are such reports
pub record TraceOneExecution (kind : ProtocolKind) (c : Configuration) (out other : List ℕ) : Type 0 where
  pub t : Litmus
  pub steps : List Step
  pub rest : List ℕ
  pub again : List ℕ
  pub first : out ≡ head t kind c ++ (trace_text t c.shape.words steps ++ rest)
  pub second : other ≡ head t kind c ++ (trace_text t c.shape.words steps ++ again)
  pub reports : ShowOneExecution kind c false (head t kind c ++ rest) (head t kind c ++ again)

-- two texts of `trace` as JSON are the objects of such reports, with the trace of the same choices added
pub record TraceOneObject (kind : ProtocolKind) (c : Configuration) (out other : List ℕ) : Type 0 where
  pub t : Litmus
  pub choices : List Choice
  pub shown : ShownRun
  pub again : ShownRun
  pub first : out ≡ json_ended t kind c choices shown
  pub second : other ≡ json_ended t kind c choices again
  pub reports : ShowOneExecution kind c true (json_report t kind c shown) (json_report t kind c again)

-- two texts of `trace` are one text, or such
abbrev pub AreOneTrace : ProtocolKind → Configuration → Bool → List ℕ → List ℕ → Type 0
AreOneTrace kind c false out other = (out ≡ other) ⊎ TraceOneExecution kind c out other
AreOneTrace kind c true out other = (out ≡ other) ⊎ TraceOneObject kind c out other

-- two texts of `outcomes` show all final states of one test, and these are alike; which choices lead to them may differ
pub record ShowTheSameStates (s : Search) (json : Bool) (out other : List ℕ) : Type 0 where
  pub t : Litmus
  pub outcomes : List Outcome
  pub others : List Outcome
  pub first : out ≡ outcomes_in json t (names_shown s.show t) s.depth outcomes
  pub second : other ≡ outcomes_in json t (names_shown s.show t) s.depth others
  pub alike : OutcomesAreAlike t (names_shown s.show t) outcomes others

-- a text of `outcomes` says that it shows some final states of a test
abbrev pub ShowsPart : Search → Bool → List ℕ → Type 0
ShowsPart s json out = (t : Litmus) × ShowsSomeStates t s json out

-- two texts spell choices of one test that lead to one order at this depth; which choices they are may differ
pub record ReachOneOrder (depth : ℕ) (out other : List ℕ) : Type 0 where
  pub t : Litmus
  pub order : List Entry
  pub choices : List Choice
  pub others : List Choice
  pub first : SpellsChoices (length t.programs) out choices
  pub second : SpellsChoices (length t.programs) other others
  pub lead : LeadTo t depth choices order
  pub lead_too : LeadTo t depth others order

-- two texts of `witness` are one text, or such choices
abbrev pub AreOneWitness : ℕ → List ℕ → List ℕ → Type 0
AreOneWitness depth out other = (out ≡ other) ⊎ ReachOneOrder depth out other
