use Rattle.refutation_checker.proofs.Vocabulary.{ap, sym, ◌∙◌, map, lemma_of, node_of, knowledge_of}
use Rattle.lemma_refutations.specs.Refutations as spec
use Rattle.refutation_checker.proofs.nodes.is_node.Goals as goal

pub returns-in-Between : goal.returns-in-Between
returns-in-Between c =
    c.is_between.ensures
    ∙ ap (λ n. spec.is_node c.args.model c.args.told.test.now (map lemma_of c.args.lemmas.now) (knowledge_of c.args.told) (node_of n)) (sym c.in-Between.is)
