-- What `counts` prints: of each number of a core its sum, the least and the greatest over the runs that ended, and over no other. Where
-- no run ended there is no number. (Primer, chapters 2, 6 and 7, for what the numbers count.)
use Rattle.std.specs.Prelude.{ℕ, ◌+◌, ◌*◌, ◌<◌, ◌≡◌, Bool, true, List, length, Option, Some, None}
use Rattle.tso_cli.specs.Vocabulary.{Choice, ChoiceFault, Configuration, IsRefusedAsChoices, IsTsoExecution, Litmus, Plan, ProtocolKind}
use Rattle.tso_cli.specs.Vocabulary.{run_under, SpellsChoices}
use Rattle.cache_counts.specs.Counted.{choices_of, Counted, numbers_under}
use Rattle.cache_counts.specs.Laws.{TellsRuns}
use Rattle.tso_cli.specs.Counts.{told_counts}
use Rattle.tso_cli.specs.Lines.{choices_refusal}

-- what was printed is counted of so many runs, each under choices of its own: it tells how many ended and how many didn't, and twelve
-- numbers for each core, each as its sum, the least and the greatest over the runs that ended; the order of each of these is a TSO
-- execution of the test
pub record PrintsCounts (t : Litmus) (kind : ProtocolKind) (c : Configuration) (plan : Option Plan) (json : Bool) (choices_in : ℕ → List Choice)
    (runs : ℕ) (out : List ℕ) : Type 0 where
  pub counted : Counted
  pub printed : out ≡ told_counts json t kind c plan counted
  pub tells : TellsRuns (λ i. numbers_under t kind c (choices_in i)) (12 * length t.programs) runs counted
  pub executions : (i : ℕ) → i < runs → (run_under t kind c (choices_in i)).ended ≡ true → IsTsoExecution t (run_under t kind c (choices_in i)).commits

-- for every list of choices that the text spells, the one run under these choices is counted; every other text is refused by its word
pub record PrintsCountsOfGiven (t : Litmus) (kind : ProtocolKind) (c : Configuration) (json : Bool) (text out : List ℕ) : Type 0 where
  pub every_list : (choices : List Choice) → SpellsChoices (length t.programs) text choices → PrintsCounts t kind c None json (λ i. choices) 1 out
  pub every_other : ((choices : List Choice) → ¬ (SpellsChoices (length t.programs) text choices))
      → (fault : ChoiceFault) × IsRefusedAsChoices (length t.programs) text fault × (out ≡ choices_refusal fault)

-- of a plan, a run for each of its seeds is counted; without one, the run of the choices that are given
abbrev pub HeadlineOfCounts : Litmus → ProtocolKind → Configuration → Option Plan → Bool → List ℕ → List ℕ → Type 0
HeadlineOfCounts t kind c (Some plan) json text out =
    PrintsCounts t kind c (Some plan) json (λ i. choices_of t plan.length (plan.from + i)) plan.seeds out
HeadlineOfCounts t kind c None json text out = PrintsCountsOfGiven t kind c json text out
