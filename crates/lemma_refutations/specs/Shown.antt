-- What is printed beside the events of a refutation by lemmas: the relation of an edge.
use Rattle.std.specs.Prelude.{if◌then◌else◌, List, [], ◌∷◌, Option, Some, None}
use Rattle.tso_terms.specs.Litmus.{Litmus}
use Rattle.tso_terms.specs.declared.execution.Entry.{Entry}
use Rattle.refutation_laws.specs.declared.model.Relation.{Relation}
use Rattle.lemma_refutations.specs.Edges.{Knowledge, relates}

-- of these relations, the first that leads from x to y
abbrev pub first_that_relates : Litmus → Knowledge → List Relation → Entry → Entry → Option Relation
first_that_relates t k [] x y = None
first_that_relates t k (r ∷ rs) x y = if relates t k r x y then Some r else first_that_relates t k rs x y
