-- The checker's stack of open branches, as the definition has them.
use Rattle.std.specs.Prelude.{List, [], ◌∷◌, ◌++◌, Vec}
use Rattle.std.specs.Global.{Global}
use Rattle.possible_reads.specs.Facts as facts
use Rattle.reading_tables.specs.Told.{facts_of}
use Rattle.reading_tables.specs.declared.facts.Fact.{Fact}

-- the branches that are open, the last one first
abbrev pub branches_of : List (Vec Fact Global) → List (List facts.Fact)
branches_of [] = []
branches_of (a ∷ rest) = branches_of rest ++ (facts_of a.items ∷ [])
