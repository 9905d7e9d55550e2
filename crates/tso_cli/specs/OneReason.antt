-- What the headline leaves open of `why`: two texts of which it holds, for one model, each as lines or as JSON and with a limit of its own.
-- Both are refutations, or both are executions; which ones they are may differ.
use Rattle.std.specs.Prelude.{ℕ, ◌<◌, ◌≡◌, Bool, List}
use Rattle.tso_cli.specs.Vocabulary.{Explanation, Instructions, Litmus, most_cases, SpellsTest, unfinished_cases_in}
use Rattle.tso_cli.specs.WhyHeadline.{PrintsRefutation, PrintsExecutionOf}

-- the text gives no reason: it says how many cases may be told apart, and there can be more
pub record GivesNoReason (t : Litmus) (e : Explanation) (json : Bool) (out : List ℕ) : Type 0 where
  pub fewer : e.cases < most_cases t
  pub printed : out ≡ unfinished_cases_in json t e.cases

-- two texts are one, the same refusal; or both tell of the test that was given that it never is so; or both tell that it can be; or one of
-- them gives no reason
pub data AreOneReason (set : Instructions) (test : List ℕ) (e f : Explanation) (json again : Bool) (out other : List ℕ) : Type 0 where
  one_text : out ≡ other → AreOneReason set test e f json again out other
  both_never : (t : Litmus) → SpellsTest set test t → PrintsRefutation t e.model json out → PrintsRefutation t f.model again other
      → AreOneReason set test e f json again out other
  both_allowed : (t : Litmus) → SpellsTest set test t → PrintsExecutionOf t e.model json out → PrintsExecutionOf t f.model again other
      → AreOneReason set test e f json again out other
  first_gives_none : (t : Litmus) → SpellsTest set test t → GivesNoReason t e json out → AreOneReason set test e f json again out other
  second_gives_none : (t : Litmus) → SpellsTest set test t → GivesNoReason t f again other → AreOneReason set test e f json again out other
