-- What is printed beside the events of a refutation: the relation of an edge, and a value where the answers tell it.
use Rattle.std.specs.Prelude.{ℕ, if◌then◌else◌, List, [], ◌∷◌, Option, Some, None}
use Rattle.tso_terms.specs.Litmus.{Litmus}
use Rattle.tso_terms.specs.ProgramOrder.{is_read}
use Rattle.tso_terms.specs.declared.execution.Entry.{Entry}
use Rattle.refutation_laws.specs.Known.{Known}
use Rattle.refutation_laws.specs.Edges.{relates}
use Rattle.refutation_laws.specs.Values.{value_among, all_known, value_read}
use Rattle.refutation_laws.specs.declared.model.Relation.{Relation}

-- of these relations, the first that leads from x to y
abbrev pub first_that_relates : Litmus → Known → List Relation → Entry → Entry → Option Relation
first_that_relates t k [] x y = None
first_that_relates t k (r ∷ rs) x y = if relates t k r x y then Some r else first_that_relates t k rs x y

-- what is known of the value of an event; a fence has none
abbrev pub value_known : Litmus → Known → Entry → Option ℕ
value_known t k e = if is_read e then value_read t k e else value_among (all_known t k) e
