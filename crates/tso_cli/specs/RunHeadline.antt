-- What `run` prints: a TSO execution of the test, with what it leaves.
-- (Primer, chapter 4, for the axioms; x86-TSO, section 3, for fences and locked instructions.)
use Rattle.std.specs.Prelude.{ℕ, ◌≡◌, Bool, true, false, List, length}
use Rattle.tso_cli.specs.Vocabulary.{Atomic, Choice, ChoiceFault, Configuration, final_registers, final_words, IsRefusedAsChoices}
use Rattle.tso_cli.specs.Vocabulary.{IsTsoExecution, KeepsAllOrder, Litmus, ProtocolKind, Run, run, ShownRun, SpellsChoices, SpellsOrder}
use Rattle.tso_cli.specs.Vocabulary.{Split, verdict}
use Rattle.tso_cli.specs.SplitRun.{split_run}
use Rattle.tso_cli.specs.Lines.{choices_refusal}
use Rattle.tso_cli.specs.RunTexts.{report_in, unfinished_in}

-- what was printed is the report of a run, plain or as JSON: its order is a TSO execution of the test, and at depth 0, where no
-- core has a store buffer, it keeps program order without exception; its registers and memory are what the programs and that
-- order give, and its verdict is the condition's truth in them; its order is the one that the run committed; and a plain report
-- can be read again, as the text of that order
pub record PrintsExecution (t : Litmus) (kind : ProtocolKind) (c : Configuration) (json : Bool) (r : Run) (out : List ℕ) : Type 0 where
  pub shown : ShownRun
  pub printed : out ≡ report_in json t kind c shown
  pub execution : IsTsoExecution t shown.order
  pub unbuffered : c.depth ≡ 0 → KeepsAllOrder shown.order
  pub registers : shown.registers ≡ final_registers t shown.order
  pub memory : shown.memory ≡ final_words t shown.order
  pub condition : shown.holds ≡ verdict t shown.registers shown.memory
  pub committed : shown.order ≡ r.commits
  pub spelled : json ≡ false → SpellsOrder t out shown.order

-- of a run that ends the test an execution is printed; of one that doesn't, only how far it came: how many choices it used,
-- and how many of them stalled
pub record PrintsRun (t : Litmus) (kind : ProtocolKind) (c : Configuration) (json : Bool) (r : Run) (out : List ℕ) : Type 0 where
  pub ended : r.ended ≡ true → PrintsExecution t kind c json r out
  pub unended : r.ended ≡ false → out ≡ unfinished_in json r.used r.stalled

-- for every list of choices that the text spells, the run under these very choices is printed, as `run_of` has it; every other
-- text is refused by its word
pub record PrintsEachRun (t : Litmus) (kind : ProtocolKind) (c : Configuration) (json : Bool) (run_of : List Choice → Run)
    (text out : List ℕ) : Type 0 where
  pub every_list : (choices : List Choice) → SpellsChoices (length t.programs) text choices → PrintsRun t kind c json (run_of choices) out
  pub every_other : ((choices : List Choice) → ¬ (SpellsChoices (length t.programs) text choices))
      → (fault : ChoiceFault) × IsRefusedAsChoices (length t.programs) text fault × (out ≡ choices_refusal fault)

-- on the atomic bus the runs are the flat machine's: no cache has a part in them, and no protocol; on the split bus they are the
-- split machine's
pub record HeadlineOfRuns (t : Litmus) (kind : ProtocolKind) (c : Configuration) (json : Bool) (text out : List ℕ) : Type 0 where
  pub atomic : c.bus ≡ Atomic → PrintsEachRun t kind c json (run t c.depth) text out
  pub split : c.bus ≡ Split → PrintsEachRun t kind c json (split_run t kind c) text out
