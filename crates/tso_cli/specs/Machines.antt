-- What two machines on the atomic bus answer that differ in the protocol, and in the sets, the ways and the words of their
-- caches: one text, into which each puts its own `Machine` and `Cache` lines, or members, and nothing else. (This project's
-- profile.)
use Rattle.std.specs.Prelude.{ℕ, ◌≡◌, ◌≢◌, ◌⊎◌, Bool, true, false, List, ◌++◌, length}
use Rattle.tso_cli.specs.Vocabulary.{Atomic, cache_lines, cache_value, Choice, Configuration, head, json_ended, json_report, json_unended}
use Rattle.tso_cli.specs.Vocabulary.{Litmus, machine_line, machine_value, ProtocolKind, ShownRun, trace_text}
use Rattle.tso_cli.specs.Dividing.{EndsInFeed}
use Rattle.tso_cli.specs.declared.answer.Status.{Status}
use Rattle.tso_cli.specs.declared.answer.Status.TheVariants.{Good, Refused}
use Rattle.multiprocessor.specs.declared.counts.Counts.{Counts}
use Rattle.trace_report.specs.Shown.{ShownStep as Step}
use Rattle.tso_report.specs.JsonFrame.{OtherMembers, json_with}

-- both are on the atomic bus, and their store buffers have one depth; their caches may have any shape
pub record AreAtomicAtOneDepth (c d : Configuration) : Type 0 where
  pub atomic : c.bus ≡ Atomic
  pub atomic_too : d.bus ≡ Atomic
  pub depth : c.depth ≡ d.depth

-- two reports are one text but for the line `Machine` and the lines `Cache` at the end, one for each core
pub record DifferInLines (kind other : ProtocolKind) (c d : Configuration) (out again : List ℕ) : Type 0 where
  pub front : List ℕ
  pub middle : List ℕ
  pub counts : List Counts
  pub others : List Counts
  pub whole_lines : EndsInFeed front × EndsInFeed middle
  pub cores : length counts ≡ length others
  pub first : out ≡ front ++ (machine_line kind c ++ (middle ++ cache_lines 0 counts))
  pub second : again ≡ front ++ (machine_line other d ++ (middle ++ cache_lines 0 others))

-- two reports as JSON are one line but for the members `cache` and `machine`
pub record DifferInMembers (kind other : ProtocolKind) (c d : Configuration) (out again : List ℕ) : Type 0 where
  pub rest : OtherMembers
  pub counts : List Counts
  pub others : List Counts
  pub cores : length counts ≡ length others
  pub first : out ≡ json_with rest (cache_value counts) (machine_value kind c)
  pub second : again ≡ json_with rest (cache_value others) (machine_value other d)

-- two reports, plain or as JSON, do
abbrev pub ReportsDiffer : Bool → ProtocolKind → ProtocolKind → Configuration → Configuration → List ℕ → List ℕ → Type 0
ReportsDiffer false kind other c d out again = DifferInLines kind other c d out again
ReportsDiffer true kind other c d out again = DifferInMembers kind other c d out again

-- two traces have the same lines but for the line `Machine`, the lines of the trace, and the lines `Cache` at the end, if there are any
pub record TracesDiffer (kind other : ProtocolKind) (c d : Configuration) (out again : List ℕ) : Type 0 where
  pub t : Litmus
  pub steps : List Step
  pub other_steps : List Step
  pub rest : List ℕ
  pub counts : List Counts
  pub others : List Counts
  pub whole_lines : EndsInFeed rest
  pub cores : length counts ≡ length others
  pub first : out ≡ head t kind c ++ (trace_text t c.shape.words steps ++ (rest ++ cache_lines 0 counts))
  pub second : again ≡ head t other d ++ (trace_text t d.shape.words other_steps ++ (rest ++ cache_lines 0 others))

-- the texts of two sweeps are one text but for the line `Machine`
pub record SweepsDiffer (kind other : ProtocolKind) (c d : Configuration) (out again : List ℕ) : Type 0 where
  pub front : List ℕ
  pub back : List ℕ
  pub whole_lines : EndsInFeed front
  pub first : out ≡ front ++ (machine_line kind c ++ back)
  pub second : again ≡ front ++ (machine_line other d ++ back)

-- two answers of `run` have one status; where the test ended, the reports differ as above, and all else is the same byte for
-- byte, the refusals and how far a run came
pub record RunsAnswerAlike (json : Bool) (kind other : ProtocolKind) (c d : Configuration) (out again : List ℕ) (how too : Status)
    : Type 0 where
  pub status : how ≡ too
  pub ended : how ≡ Good → ReportsDiffer json kind other c d out again
  pub otherwise : how ≢ Good → out ≡ again

-- two traces as JSON of runs that ended are the objects of two reports that differ in the members `cache` and `machine`, with
-- the traces of the same choices of the same test added
pub record EndedObjectsDiffer (kind other : ProtocolKind) (c d : Configuration) (out again : List ℕ) : Type 0 where
  pub t : Litmus
  pub choices : List Choice
  pub shown : ShownRun
  pub other_shown : ShownRun
  pub reports : DifferInMembers kind other c d (json_report t kind c shown) (json_report t other d other_shown)
  pub first : out ≡ json_ended t kind c choices shown
  pub second : again ≡ json_ended t other d choices other_shown

-- two traces as JSON of runs that didn't end tell the same numbers, with the traces of the same choices of the same test added
pub record UnendedObjectsDiffer (kind other : ProtocolKind) (c d : Configuration) (out again : List ℕ) : Type 0 where
  pub t : Litmus
  pub choices : List Choice
  pub used : ℕ
  pub stalled : ℕ
  pub first : out ≡ json_unended t kind c choices used stalled
  pub second : again ≡ json_unended t other d choices used stalled

-- two traces that aren't refused, plain or as JSON, do
abbrev pub TracesDifferIn : Bool → ProtocolKind → ProtocolKind → Configuration → Configuration → List ℕ → List ℕ → Type 0
TracesDifferIn false kind other c d out again = TracesDiffer kind other c d out again
TracesDifferIn true kind other c d out again = EndedObjectsDiffer kind other c d out again ⊎ UnendedObjectsDiffer kind other c d out again

-- two answers of `trace` have one status; refusals are the same byte for byte, and all others differ in those lines or members alone
pub record TracesAnswerAlike (json : Bool) (kind other : ProtocolKind) (c d : Configuration) (out again : List ℕ) (how too : Status)
    : Type 0 where
  pub status : how ≡ too
  pub traced : how ≢ Refused → TracesDifferIn json kind other c d out again
  pub refused : how ≡ Refused → out ≡ again

-- two answers of `sweep` have one status; the texts differ in that line, and refusals are the same byte for byte
pub record SweepsAnswerAlike (kind other : ProtocolKind) (c d : Configuration) (out again : List ℕ) (how too : Status) : Type 0 where
  pub status : how ≡ too
  pub swept : how ≢ Refused → SweepsDiffer kind other c d out again
  pub refused : how ≡ Refused → out ≡ again
