-- Answers and trees as the code holds them, and the definitions' own that they stand for.
use Rattle.std.specs.Prelude.{List}
use Rattle.refutation_laws.specs.Known.{Known}
use Rattle.refutation_laws.specs.Edges.{on_location, global_in}
use Rattle.refutation_laws.specs.declared.model.Relation.{Relation}
use Rattle.refutations.specs.declared.answers.Answers.{Answers}
use Rattle.refutations.specs.declared.edges.Acyclic.{Acyclic}
use Rattle.refutations.specs.declared.edges.Acyclic.TheVariants.{OnLocation, Globally}
use Rattle.refutations.specs.declared.tree.Node.{Node}
use Rattle.refutation_laws.specs.Refutations as spec
use Rattle.refutations.specs.declared.tree.Node.TheVariants as code

abbrev pub known_of : Answers → Known
known_of a = record { sources = a.sources.items; order = a.order.items }

-- the relations that are acyclic together
abbrev pub relations_of : Acyclic → List Relation
relations_of OnLocation = on_location
relations_of (Globally model) = global_in model

abbrev pub node_of : Node → spec.Node
node_of (code.ReadsFrom r) = spec.ReadsFrom r
node_of (code.ComesFirst w v) = spec.ComesFirst w v
node_of (code.OnLocation cycle) = spec.OnLocation cycle.items
node_of (code.Globally cycle) = spec.Globally cycle.items
node_of (code.Between r v w) = spec.Between r v w
node_of code.FalseClaim = spec.FalseClaim
