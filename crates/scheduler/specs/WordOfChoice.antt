-- Which word of a text says a choice, for a refusal that names it: the choices of `seed N M` all have one word.
use Rattle.std.specs.Prelude.{ℕ, ◌≡◌, ◌<◌, ◌≤◌, ◌+◌, ◌++◌, List, length}
use Rattle.tso_terms.specs.declared.choice.Choice.{Choice}
use Rattle.scheduler.specs.Words.{words_of_text}
use Rattle.scheduler.specs.Grammar.{IsItem, AreItems}

-- words begin with items, and the choice at this place, counted from 0, is of the last of them, whose first word has this
-- number; words are numbered from 1
pub record SayAt (cores : ℕ) (words : List (List ℕ)) (place number : ℕ) : Type 0 where
  pub front : List (List ℕ)
  pub item : List (List ℕ)
  pub back : List (List ℕ)
  pub before : List Choice
  pub choices : List Choice
  pub split : words ≡ front ++ (item ++ back)
  pub items : AreItems cores front before
  pub is_item : IsItem cores item choices
  pub not_before : length before ≤ place
  pub within : place < length before + length choices
  pub number_is : number ≡ length front + 1

-- the choice at this place of a text, in a test with so many cores, is of the item that begins with the word of this number
abbrev pub IsWordOfChoice : ℕ → List ℕ → ℕ → ℕ → Type 0
IsWordOfChoice cores text place number = SayAt cores (words_of_text text) place number
