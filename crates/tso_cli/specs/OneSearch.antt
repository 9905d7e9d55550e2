-- What the headline leaves open of `outcomes`: two texts of which it holds, each as lines or as JSON. They show the same states of the
-- input's own test, and differ in the choices that lead there alone; or one of them says that it shows some of them.
use Rattle.std.specs.Prelude.{ℕ, ◌≡◌, Bool, List, [], map}
use Rattle.tso_cli.specs.Vocabulary.{HasMoreStates, Instructions, Litmus, names_shown, Outcome, outcomes_in, OutcomesAreAlike, Search}
use Rattle.tso_cli.specs.Vocabulary.{SpellsTest, unfinished_search_in}
use Rattle.tso_cli.specs.Outcomes.{AreSomeOutcomes}

-- the same state, with no choices
abbrev pub without_choices : Outcome → Outcome
without_choices o = record { registers = o.registers; memory = o.memory; choices = [] }

-- both texts show final states of the test, and these are alike; with the choices left out they are one text, in either form
pub record ShowOneSearch (t : Litmus) (s : Search) (json again : Bool) (out other : List ℕ) : Type 0 where
  pub outcomes : List Outcome
  pub others : List Outcome
  pub first : out ≡ outcomes_in json t (names_shown s.show t) s.depth outcomes
  pub second : other ≡ outcomes_in again t (names_shown s.show t) s.depth others
  pub alike : OutcomesAreAlike t (names_shown s.show t) outcomes others
  pub but_for_choices : (form : Bool)
      → outcomes_in form t (names_shown s.show t) s.depth (map without_choices outcomes)
      ≡ outcomes_in form t (names_shown s.show t) s.depth (map without_choices others)

-- the text says that the machine can reach more states than may be kept, and shows some final states
pub record ShowsSomeStates (t : Litmus) (s : Search) (json : Bool) (out : List ℕ) : Type 0 where
  pub outcomes : List Outcome
  pub more : HasMoreStates t s.depth s.states
  pub some : AreSomeOutcomes t (names_shown s.show t) s.depth outcomes
  pub printed : out ≡ unfinished_search_in json t (names_shown s.show t) s.states outcomes

-- two texts are one, the same refusal; or both show all states of the test that was given; or one of them shows some
pub data AreOneSearch (set : Instructions) (test : List ℕ) (s : Search) (json again : Bool) (out other : List ℕ) : Type 0 where
  one_text : out ≡ other → AreOneSearch set test s json again out other
  both_show : (t : Litmus) → SpellsTest set test t → ShowOneSearch t s json again out other → AreOneSearch set test s json again out other
  first_shows_some : (t : Litmus) → SpellsTest set test t → ShowsSomeStates t s json out → AreOneSearch set test s json again out other
  second_shows_some : (t : Litmus) → SpellsTest set test t → ShowsSomeStates t s again other → AreOneSearch set test s json again out other
