-- What the definitions know of a branch that the code holds.
use Rattle.std.specs.Prelude.{◌≡◌}
use Rattle.reading_tables.specs.Told.{facts_of}
use Rattle.reading_tables.specs.inner.Tables.{IsProblem, IsTold, readings_of}
use Rattle.reading_tables.specs.declared.tables.Told.{Told}
use Rattle.reading_tables.specs.declared.tables.Problem.{Problem}
use Rattle.lemma_refutations.specs.Edges.{Knowledge}

abbrev pub knowledge_of : Told → Knowledge
knowledge_of told = record { facts = facts_of told.facts.now; readings = readings_of told.readings.now }

-- it is told of the problem's test
pub record IsCase (problem : Problem) (told : Told) : Type 0 where
  pub is_told : IsTold told
  pub is_problem : IsProblem problem.test.now problem
  pub same_test : problem.test.now ≡ told.test.now
  pub same_makings : problem.expressions.makings.items ≡ told.makings.now
