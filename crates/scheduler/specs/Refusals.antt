-- Which refusal a text gets that spells no choices: that of its first item at fault.
use Rattle.std.specs.Prelude.{◌≡◌, ◌≢◌, ◌⊎◌, ◌<◌, ◌≤◌, ◌^◌, ◌+◌, ◌++◌, ℕ, List, ◌∷◌, length, codes, IsTrue}
use Rattle.tso_terms.specs.FlatMachine.{chosen}
use Rattle.tso_terms.specs.declared.choice.Choice.{Choice}
use Rattle.scheduler.specs.declared.fault.ChoiceFault.{ChoiceFault}
use Rattle.scheduler.specs.declared.fault.ChoiceFault.TheVariants.{BadWord, NoSuchCore, TooMany}
use Rattle.tso_terms.specs.Decimals.{decimal_value}
use Rattle.scheduler.specs.Words.{words_of_text, is_numeral}
use Rattle.scheduler.specs.Limits.{most_choices}
use Rattle.scheduler.specs.Grammar.{IsChoiceWord, IsItem, AreItems, SpellsChoices}

-- the fault of the item at which words begin, where `before` choices come before it and its first word has this number
pub data IsItemAtFault (cores before number : ℕ) : List (List ℕ) → ChoiceFault → Type 0 where
  -- the word has none of the forms
  bad_form : (word : List ℕ) (rest : List (List ℕ)) → ((choice : Choice) → ¬ (IsChoiceWord word choice)) → word ≢ codes "seed"
      → IsItemAtFault cores before number (word ∷ rest) (BadWord number)
  -- the text ends before the two words of `seed`
  cut_seed : (rest : List (List ℕ)) → length rest < 2 → IsItemAtFault cores before number (codes "seed" ∷ rest) (BadWord number)
  -- else the seed isn't all digits, or is 2^64 or more
  bad_seed : (seed count : List ℕ) (rest : List (List ℕ)) → ¬ (IsTrue (is_numeral seed) × (decimal_value seed < 2 ^ 64))
      → IsItemAtFault cores before number (codes "seed" ∷ seed ∷ count ∷ rest) (BadWord (number + 1))
  -- else the count isn't all digits
  bad_count : (seed count : List ℕ) (rest : List (List ℕ))
      → IsTrue (is_numeral seed) → decimal_value seed < 2 ^ 64 → ¬ (IsTrue (is_numeral count))
      → IsItemAtFault cores before number (codes "seed" ∷ seed ∷ count ∷ rest) (BadWord (number + 2))
  -- the word is a choice of a core that isn't there
  no_core : (word : List ℕ) (choice : Choice) (rest : List (List ℕ)) → IsChoiceWord word choice → cores ≤ chosen choice
      → IsItemAtFault cores before number (word ∷ rest) (NoSuchCore number)
  -- the item has none of these faults, and with its choices there are too many
  too_many : (words : List (List ℕ)) (choices : List Choice) (rest : List (List ℕ)) → IsItem cores words choices
      → most_choices < before + length choices → IsItemAtFault cores before number (words ++ rest) (TooMany number)

-- words get a refusal: they are items within the limit, and after these one at fault; words are numbered from 1
pub record AreRefused (cores : ℕ) (words : List (List ℕ)) (fault : ChoiceFault) : Type 0 where
  pub front : List (List ℕ)
  pub back : List (List ℕ)
  pub choices : List Choice
  pub split : words ≡ front ++ back
  pub items : AreItems cores front choices
  pub few : length choices ≤ most_choices
  pub at_fault : IsItemAtFault cores (length choices) (length front + 1) back fault

-- a text gets a refusal in a test with so many cores
abbrev pub IsRefusedAsChoices : ℕ → List ℕ → ChoiceFault → Type 0
IsRefusedAsChoices cores text fault = AreRefused cores (words_of_text text) fault

-- a text spells one list of choices or gets one refusal, and never both
pub record IsDecidedAsChoices (cores : ℕ) (text : List ℕ) : Type 0 where
  pub one_list : (choices others : List Choice) → SpellsChoices cores text choices → SpellsChoices cores text others → choices ≡ others
  pub one_refusal : (fault other : ChoiceFault) → IsRefusedAsChoices cores text fault → IsRefusedAsChoices cores text other → fault ≡ other
  pub never_both : (choices : List Choice) (fault : ChoiceFault)
      → SpellsChoices cores text choices → IsRefusedAsChoices cores text fault → ⊥
  pub always : ((choices : List Choice) × SpellsChoices cores text choices) ⊎ ((fault : ChoiceFault) × IsRefusedAsChoices cores text fault)
