use Rattle.found_reasons.proofs.Vocabulary.{sym, ap, ◌∙◌, subst, knowledge_of, CycleOrOrdered, read_of, first_where, has_no_source}
use Rattle.refutations.specs.declared.edges.Acyclic.TheVariants.{OnLocation, Globally}
use Rattle.found_reasons.proofs.Rowing.{found-sourceless, leaf-or-none}
use Rattle.found_reasons.proofs.leaves.find_leaf.Goals as goal

pub returns-in-Some : goal.returns-in-Some
returns-in-Some c =
    found-sourceless c.args.model c.args.told.test.now (knowledge_of c.args.told) c.in-Some.question
    (ap (λ es. read_of (first_where (has_no_source c.args.told.test.now (knowledge_of c.args.told)) es)) (sym c.requires.is_told.events)
    ∙ (sym c.find_sourceless.ensures ∙ c.in-Some.is))

pub returns : goal.returns
returns c =
    leaf-or-none c.args.model c.args.told.test.now (knowledge_of c.args.told) c.args.told.events.now c.requires.is_told.events
    (subst (CycleOrOrdered c.args.told.test.now (knowledge_of c.args.told) OnLocation) c.in_default-2.is c.in_ok-cycle.ensures)
    (subst (CycleOrOrdered c.args.told.test.now (knowledge_of c.args.told) (Globally c.args.model)) c.in_default-3.is c.in_ok-cycle-2.ensures)
    (sym c.in_ok-is_false.ensures ∙ c.if-branch.false) (sym c.find_sourceless.ensures ∙ c.in_default.is)
    c.find_between.result c.find_between.ensures
