-- Which text spells which choices: the grammar as it is told to people, apart from how a reader goes about it. (This
-- project's profile.)
use Rattle.std.specs.Prelude.{◌<◌, ◌≤◌, ◌^◌, ◌++◌, ℕ, List, [], ◌∷◌, length, codes, IsTrue}
use Rattle.tso_terms.specs.FlatMachine.{chosen}
use Rattle.basic_laws.specs.Types.{Choice, Step, Drain}
use Rattle.scheduler.specs.Limits.{most_choices}
use Rattle.tso_terms.specs.Decimals.{decimal_value}
use Rattle.scheduler.specs.Words.{words_of_text, is_numeral}
use Rattle.scheduler.specs.Seeds.{seeded_choices}

-- a word of digits and `s`, or digits and `d`: a choice of the core that the digits say, be it there or not
pub data IsChoiceWord : List ℕ → Choice → Type 0 where
  step : (digits : List ℕ) → IsTrue (is_numeral digits) → IsChoiceWord (digits ++ codes "s") (Step (record { 0 = decimal_value digits }))
  drain : (digits : List ℕ) → IsTrue (is_numeral digits) → IsChoiceWord (digits ++ codes "d") (Drain (record { 0 = decimal_value digits }))

-- the words of one item, and its choices
pub data IsItem (cores : ℕ) : List (List ℕ) → List Choice → Type 0 where
  -- one word for a choice of a core that is there
  one : (word : List ℕ) (choice : Choice) → IsChoiceWord word choice → chosen choice < cores → IsItem cores (word ∷ []) (choice ∷ [])
  -- the three words `seed N M` for the first M choices of the seed N
  seeded : (seed count : List ℕ) → IsTrue (is_numeral seed) → decimal_value seed < 2 ^ 64 → IsTrue (is_numeral count)
      → IsItem cores (codes "seed" ∷ seed ∷ count ∷ []) (seeded_choices cores (decimal_value seed) (decimal_value count))

-- words that are items one after the other, and the choices of these items
pub data AreItems (cores : ℕ) : List (List ℕ) → List Choice → Type 0 where
  none : AreItems cores [] []
  more : (words rest : List (List ℕ)) (choices others : List Choice) → IsItem cores words choices → AreItems cores rest others
      → AreItems cores (words ++ rest) (choices ++ others)

-- words spell choices in a test with so many cores
pub record WordsSpell (cores : ℕ) (words : List (List ℕ)) (choices : List Choice) : Type 0 where
  pub items : AreItems cores words choices
  pub few : length choices ≤ most_choices

-- a text spells choices in a test with so many cores
abbrev pub SpellsChoices : ℕ → List ℕ → List Choice → Type 0
SpellsChoices cores text choices = WordsSpell cores (words_of_text text) choices
