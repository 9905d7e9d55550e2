-- The nodes of a tree in their branches, as the code holds them.
use Rattle.std.specs.Prelude.{ℕ, ◌≡◌, List, [], ◌∷◌, ◌++◌}
use Rattle.possible_reads.specs.Facts.{Fact}
use Rattle.possible_reads.specs.Possible.{readings}
use Rattle.reading_tables.specs.Told.{facts_of}
use Rattle.reading_tables.specs.inner.Tables.{AreTableValues, readings_of}
use Rattle.reading_tables.specs.declared.tables.Problem.{Problem}
use Rattle.reading_tables.specs.declared.tables.Table.{Table}
use Rattle.search_report.specs.Lines as spec
use Rattle.search_report.specs.inner.LineViews.{shown_facts_of}
use Rattle.search_report.specs.inner.ShownViews.{shown_closing_of}
use Rattle.search_report.specs.declared.standing.Branch.{Branch}
use Rattle.search_report.specs.declared.standing.Standing.{Standing}

-- what these facts leave possible
pub record IsTableOf (problem : Problem) (facts : List Fact) (table : Table) : Type 0 where
  pub readings : readings_of table.readings.items ≡ readings problem.test.now facts
  pub values : AreTableValues problem table

-- a branch of these facts, before whose last answer there were so many
abbrev pub branch_of : ℕ → List Fact → spec.Branch
branch_of before facts = record { facts = facts; before = before }

abbrev pub branch_in : Branch → spec.Branch
branch_in b = branch_of b.before (facts_of b.facts.items)

-- the branches that are open, the last one first
abbrev pub stack_of : List Branch → List spec.Branch
stack_of [] = []
stack_of (b ∷ rest) = stack_of rest ++ (branch_in b ∷ [])

abbrev pub standing_of : Standing → spec.Standing
standing_of s = record {
  answer = shown_facts_of s.answer;
  question = s.question.now;
  count = s.count;
  closing = shown_closing_of s.closing;
}
