-- The form of a hint: one printable line of limited length, whatever bytes the input has, and of a line that says choices.
-- Nothing else is promised of them.
use Rattle.std.specs.Prelude.{◌≡◌, ◌++◌, ◌≤◌, ◌∷◌, [], ℕ, List, true, length, codes}
use Rattle.std.specs.List.{list_all}
use Rattle.tso_terms.specs.Names.{is_printable}
use Rattle.tso_terms.specs.declared.choice.Choice.{Choice}
use Rattle.scheduler.specs.Printed.{printed_choices}

-- maximum length of a hint with its line feed, in bytes
abbrev pub longest_hint : ℕ
longest_hint = 256

-- one line: `hint: `, printable words, and a line feed
pub record IsHint (text : List ℕ) : Type 0 where
  pub words : List ℕ
  pub is : text ≡ codes "hint: " ++ words ++ (10 ∷ [])
  pub printable : list_all is_printable words ≡ true
  pub short : length text ≤ longest_hint

-- maximum length of a line that says choices, with its line feed, in bytes
abbrev pub longest_runs_line : ℕ
longest_runs_line = 2048

-- one line: `hint: run these: `, choices in the form in which they are read, and a line feed
pub record IsRunsLine (text : List ℕ) : Type 0 where
  pub choices : List Choice
  pub is : text ≡ codes "hint: run these: " ++ printed_choices choices ++ (10 ∷ [])
  pub short : length text ≤ longest_runs_line
