-- For which model a reason is looked for, and how many cases may be told apart meanwhile.
use Rattle.std.specs.Prelude.{ℕ, ◌≤◌}
use Rattle.refutation_laws.specs.declared.model.Model.{Model}

-- the model of memory, and how many cases may be told apart
pub record Explanation : Type 0 where
  pub model : Model
  pub cases : ℕ

-- maximum number of cases that may be told apart
abbrev pub most_told_apart : ℕ
most_told_apart = 1000000

-- there is room for a case, and for no more than there may be
abbrev pub IsExplanationWithinLimits : Explanation → Type 0
IsExplanationWithinLimits e = (1 ≤ e.cases) × (e.cases ≤ most_told_apart)
