use Rattle.refutation_checker.proofs.Vocabulary.{ap, sym, ◌∙◌, is_known, fact_of, knowledge_of}
use Rattle.refutation_checker.proofs.claims.is_known.Goals as goal

pub returns-in-Before : goal.returns-in-Before
returns-in-Before c = c.are_ordered.ensures ∙ ap (λ f. is_known c.args.told.test.now (knowledge_of c.args.told) (fact_of f)) (sym c.in-Before.is)
