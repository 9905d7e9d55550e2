-- From the last step of a test's trace to what is answered to an input; the status of a run that left its test.
use Rattle.tso_cli.proofs.Vocabulary.{◌≡◌, ◌≤◌, ℕ, List, length, refl, Litmus, Run, SpellsTest, ProtocolKind, Configuration, Instructions}
use Rattle.tso_cli.proofs.Vocabulary.{answered, run_status, longest_input, parts_of, IsEndingOf, IsStepAnswer, IsLastStep, told, Status}
use Rattle.tso_cli.proofs.Vocabulary.{Refused, Ending, Ended, Unfinished}
use Rattle.tso_cli.specs.Step as answer
use Rattle.tso_cli.specs.inner.Step.{refused}
use Rattle.tso_cli.specs.inner.Trace.{status_in}

pub step-of-test : (kind : ProtocolKind) (c : Configuration) (set : Instructions) (input : List ℕ) (t : Litmus) (out : List ℕ) (status : Status)
    → length input ≤ longest_input → SpellsTest set (parts_of input).test t → IsLastStep t kind c (parts_of input).rest out status
    → IsStepAnswer kind c set input out status
step-of-test kind c set input t out status small spelled (refused line is) = answer.refused line (answered t line Refused small spelled is)
step-of-test kind c set input t out status small spelled (told choices spells fit short) = answer.told t choices small spelled spells fit short

pub status-is : (t : Litmus) (r : Run) (e : Ending) → IsEndingOf t r e → status_in e ≡ run_status r
status-is t r (Ended run) is = rw is.0 refl
status-is t r (Unfinished used stalled) is = rw is.0 refl
