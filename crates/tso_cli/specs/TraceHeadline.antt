-- What `trace` prints: what `run` prints of a run, with what each choice of that very run did. A trace of another run would
-- explain nothing.
use Rattle.std.specs.Prelude.{ℕ, ◌≡◌, Bool, true, false, List, ◌++◌, length}
use Rattle.tso_cli.specs.Vocabulary.{Atomic, Choice, ChoiceFault, Configuration, head, IsRefusedAsChoices, json_ended, json_unended, Litmus}
use Rattle.tso_cli.specs.Vocabulary.{most_steps, ProtocolKind, Run, run, SpellsChoices, Split, trace_text}
use Rattle.scheduler.specs.WordOfChoice.{IsWordOfChoice}
use Rattle.scheduler.specs.declared.fault.ChoiceFault.TheVariants.{TooMany}
use Rattle.trace_report.specs.Steps.{trace_under}
use Rattle.tso_cli.specs.RunHeadline.{PrintsExecution}
use Rattle.tso_cli.specs.SplitRun.{split_run}
use Rattle.tso_cli.specs.Lines.{choices_refusal, unfinished_run_line}
use Rattle.tso_cli.specs.Trace.{FitsForm, IsTooLong}

-- the trace of the choices comes between the first two lines and a rest: where the run ends, the two lines and the rest are the
-- report of an execution, as `run` prints it; where it doesn't, the rest is the line that says how far it came
pub record PrintsTrace (t : Litmus) (kind : ProtocolKind) (c : Configuration) (choices : List Choice) (r : Run) (out : List ℕ) : Type 0 where
  pub rest : List ℕ
  pub printed : out ≡ head t kind c ++ (trace_text t c.shape.words (trace_under t kind c choices) ++ rest)
  pub ended : r.ended ≡ true → PrintsExecution t kind c false r (head t kind c ++ rest)
  pub unended : r.ended ≡ false → rest ≡ unfinished_run_line r.used r.stalled

-- as JSON, where the run ends: the object of an execution, as `run` prints it, with what a trace adds
pub record PrintsTracedExecution (t : Litmus) (kind : ProtocolKind) (c : Configuration) (choices : List Choice) (r : Run) (out : List ℕ)
    : Type 0 where
  pub object : List ℕ
  pub execution : PrintsExecution t kind c true r object
  pub printed : out ≡ json_ended t kind c choices execution.shown

-- as JSON, of a run that doesn't end: how far it came, with what a trace adds
pub record PrintsTracedObject (t : Litmus) (kind : ProtocolKind) (c : Configuration) (choices : List Choice) (r : Run) (out : List ℕ)
    : Type 0 where
  pub ended : r.ended ≡ true → PrintsTracedExecution t kind c choices r out
  pub unended : r.ended ≡ false → out ≡ json_unended t kind c choices r.used r.stalled

-- lines, or JSON
abbrev pub PrintsTraceIn : Bool → Litmus → ProtocolKind → Configuration → List Choice → Run → List ℕ → Type 0
PrintsTraceIn false t kind c choices r out = PrintsTrace t kind c choices r out
PrintsTraceIn true t kind c choices r out = PrintsTracedObject t kind c choices r out

-- for every list of choices that the text spells, the run under these very choices is printed so, or, where it is too long for
-- JSON, the text is refused by the word that says the first choice beyond the limit; every other text is refused by its word
pub record PrintsEachTrace (t : Litmus) (kind : ProtocolKind) (c : Configuration) (json : Bool) (run_of : List Choice → Run)
    (text out : List ℕ) : Type 0 where
  pub every_list : (choices : List Choice) → SpellsChoices (length t.programs) text choices → FitsForm json (run_of choices)
      → PrintsTraceIn json t kind c choices (run_of choices) out
  pub too_long : (choices : List Choice) → SpellsChoices (length t.programs) text choices → IsTooLong json (run_of choices)
      → (word : ℕ) × IsWordOfChoice (length t.programs) text most_steps word × (out ≡ choices_refusal (TooMany word))
  pub every_other : ((choices : List Choice) → ¬ (SpellsChoices (length t.programs) text choices))
      → (fault : ChoiceFault) × IsRefusedAsChoices (length t.programs) text fault × (out ≡ choices_refusal fault)

-- on the atomic bus of the flat machine's runs, on the split bus of the split machine's
pub record HeadlineOfTraces (t : Litmus) (kind : ProtocolKind) (c : Configuration) (json : Bool) (text out : List ℕ) : Type 0 where
  pub atomic : c.bus ≡ Atomic → PrintsEachTrace t kind c json (run t c.depth) text out
  pub split : c.bus ≡ Split → PrintsEachTrace t kind c json (split_run t kind c) text out
