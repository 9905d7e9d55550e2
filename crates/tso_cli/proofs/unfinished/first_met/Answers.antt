use Rattle.tso_cli.proofs.Vocabulary.{length, sym, subst, NamesExist, claim_of}
use Rattle.tso_cli.proofs.unfinished.first_met.Goals as goal

pub cond_holds-requires : goal.cond_holds-requires
cond_holds-requires c =
    let f = c.found-item.result in
    let claim = claim_of c.args.cond.now.prop in
    subst (λ r. NamesExist (length r) (length c.deref-in-loop-found.result.now) claim) (sym c.deref.ensures.value)
    (subst (λ m. NamesExist (length f.registers.items) (length m) claim) (sym c.deref-in-loop-found.ensures.value)
    (subst (λ g. NamesExist (length g.registers.items) (length g.memory.items) claim) (sym c.found-item.is)
    (c.requires c.loop-found.found-index f c.loop-found-test.true)))
