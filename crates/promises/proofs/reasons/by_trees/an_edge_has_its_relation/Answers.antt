use Rattle.promises.proofs.reasons.by_trees.an_edge_has_its_relation.Goals as goal

pub returns-clause-edge : goal.returns-clause-edge
returns-clause-edge c = c.edges_have_relations.ensures.edge

pub returns-clause-holds : goal.returns-clause-holds
returns-clause-holds c = c.edges_have_relations.ensures.holds
