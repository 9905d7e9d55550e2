-- What the lines that `why` prints of a refutation tell by their head, whichever lines they are.
use Rattle.std.specs.Prelude.{◌≡◌, ◌<◌, ◌^◌, List}
use Rattle.printed_laws.specs.Vocabulary.{IsTest, Litmus, Model}
use Rattle.search_report.specs.Lines.{Line, leaves_in}
use Rattle.search_report.specs.LineText.{never_lines}

-- the test by its name, the model, and how many lines close a case, where these are fewer than 2^64
pub record HeadsAreTheSame (model other : Model) (t u : Litmus) (lines others : List Line) : Type 0 where
  pub test : t.name ≡ u.name
  pub model_named : model ≡ other
  pub leaves : leaves_in lines < 2 ^ 64 → leaves_in others < 2 ^ 64 → leaves_in lines ≡ leaves_in others

abbrev pub ReasonsTellTheirTests : Type 0
ReasonsTellTheirTests =
    (model other : Model) (t u : Litmus) (lines others : List Line)
    → IsTest t → IsTest u → never_lines model t lines ≡ never_lines other u others → HeadsAreTheSame model other t u lines others
