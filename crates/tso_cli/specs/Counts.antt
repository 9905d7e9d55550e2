-- The answer of `counts`: what the caches did in the runs of many seeds, or in the one run of choices that are given. Each run is one
-- that `run` makes.
use Rattle.std.specs.Prelude.{ℕ, ◌≡◌, ◌==◌, Bool, true, false, if◌then◌else◌, List, length, Option, Some, None}
use Rattle.tso_cli.specs.Vocabulary.{AnswersFit, Choice, ChoiceFault, Configuration, IsRefusedAsChoices, Litmus, Plan, ProtocolKind, SpellsChoices}
use Rattle.cache_counts.specs.Counted.{Counted, counted_by, counted_once}
use Rattle.cache_counts.specs.Runs.{AnswersFitFrom}
use Rattle.counts_report.specs.Printed.{counts_text}
use Rattle.counts_report.specs.Json.{json_counts}
use Rattle.tso_cli.specs.Lines.{choices_refusal}
use Rattle.tso_cli.specs.declared.answer.Status.{Status}
use Rattle.tso_cli.specs.declared.answer.Status.TheVariants.{Good, Refused, Unended}

-- what is written of this, in lines or as JSON
abbrev pub told_counts : Bool → Litmus → ProtocolKind → Configuration → Option Plan → Counted → List ℕ
told_counts false t kind c plan k = counts_text t kind c plan k
told_counts true t kind c plan k = json_counts t kind c plan k

-- whether all runs ended
abbrev pub counts_status : Counted → Status
counts_status k = if k.unfinished == 0 then Good else Unended

-- of the runs of a plan; along each of them the caches answered as caches may
pub record IsCountOfSeeds (t : Litmus) (kind : ProtocolKind) (c : Configuration) (plan : Plan) (json : Bool) (out : List ℕ) (status : Status)
    : Type 0 where
  pub text : out ≡ told_counts json t kind c (Some plan) (counted_by t kind c plan)
  pub status_is : status ≡ counts_status (counted_by t kind c plan)
  pub answers : AnswersFitFrom t kind c plan.length plan.from plan.seeds

-- of the one run of choices that are given; a refusal of them is that of `run`
pub data IsCountOfGiven (t : Litmus) (kind : ProtocolKind) (c : Configuration) (json : Bool) (text : List ℕ) : List ℕ → Status → Type 0 where
  refused : (fault : ChoiceFault) → IsRefusedAsChoices (length t.programs) text fault
      → IsCountOfGiven t kind c json text (choices_refusal fault) Refused
  ran : (choices : List Choice) → SpellsChoices (length t.programs) text choices → AnswersFit t kind c choices
      → IsCountOfGiven t kind c json text (told_counts json t kind c None (counted_once t kind c choices))
      (counts_status (counted_once t kind c choices))

-- the answer of `counts` to a test and the second part of an input, which is looked at only where choices are given
abbrev pub IsCountsAnswer : Litmus → ProtocolKind → Configuration → Option Plan → Bool → List ℕ → List ℕ → Status → Type 0
IsCountsAnswer t kind c (Some plan) json text out status = IsCountOfSeeds t kind c plan json out status
IsCountsAnswer t kind c None json text out status = IsCountOfGiven t kind c json text out status
