-- Trees and lemmas as the code holds them, and the definitions' own that they stand for.
use Rattle.std.specs.Prelude.{map}
use Rattle.reading_tables.specs.Told.{facts_of}
use Rattle.refutation_checker.specs.declared.tree.Node.{Node}
use Rattle.refutation_checker.specs.declared.tree.Node.TheVariants as code
use Rattle.refutation_checker.specs.declared.tree.Lemma.{Lemma}
use Rattle.lemma_refutations.specs.Refutations as spec
use Rattle.reading_tables.specs.Told.{fact_of}

abbrev pub node_of : Node → spec.Node
node_of (code.ReadsFrom r) = spec.ReadsFrom r
node_of (code.ReadsValue r) = spec.ReadsValue r
node_of (code.IsReadBy loc write) = spec.IsReadBy loc.0 write
node_of (code.ComesLast loc) = spec.ComesLast loc.0
node_of (code.HasCase fact) = spec.HasCase fact
node_of (code.OnLocation cycle) = spec.OnLocation cycle.items
node_of (code.Globally cycle) = spec.Globally cycle.items
node_of (code.Between r v w) = spec.Between r v w
node_of code.FalseClaim = spec.FalseClaim
node_of (code.ByLemma lemma) = spec.ByLemma lemma
node_of (code.Asks fact) = spec.Asks (fact_of fact)

abbrev pub lemma_of : Lemma → spec.Lemma
lemma_of x = record { facts = facts_of x.facts.items; tree = map node_of x.tree.items }
