-- A cycle, or a row.
use Rattle.std.specs.Prelude.{◌≡◌, true, if◌then◌else◌, List, [], ◌∷◌, Option, Some, None, option_map}
use Rattle.std.specs.Global.{Vec}
use Rattle.tso_terms.specs.Litmus.{Litmus}
use Rattle.tso_terms.specs.declared.execution.Entry.{Entry}
use Rattle.relational_model.specs.inner.Rows.{Ordered}
use Rattle.refutation_laws.specs.Known.{same_event, events_of}
use Rattle.refutation_laws.specs.Edges.{is_cycle}
use Rattle.lemma_refutations.specs.Edges.{Knowledge, is_edge}
use Rattle.refutations.specs.inner.Trees.{relations_of}
use Rattle.refutations.specs.declared.edges.Acyclic.{Acyclic}

abbrev pub CycleOrOrdered : Litmus → Knowledge → Acyclic → Option (Vec Entry) → Type 0
CycleOrOrdered t k acyclic (Some cycle) = is_cycle t (is_edge t k (relations_of acyclic)) cycle.items ≡ true
CycleOrOrdered t k acyclic None = Ordered (λ x y. is_edge t k (relations_of acyclic) x y ≡ true) (events_of t)

-- the front of a path that ends with x
abbrev pub up_to : Entry → List Entry → Option (List Entry)
up_to x [] = None
up_to x (p ∷ ps) = if same_event p x then Some (p ∷ []) else option_map (λ f. p ∷ f) (up_to x ps)
