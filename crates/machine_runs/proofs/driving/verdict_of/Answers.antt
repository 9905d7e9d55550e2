use Rattle.machine_runs.proofs.Vocabulary.{length, sym, subst, NamesExist, claim_of, condition_of}
use Rattle.machine_runs.proofs.driving.verdict_of.Goals as goal

pub cond_holds-requires : goal.cond_holds-requires
cond_holds-requires c =
    let claim = claim_of c.in-Some.cond.now.prop in
    let fits = c.in-Some.ensures.test.condition_fits (condition_of c.in-Some.cond.now) (sym c.in-Some.ensures.value) in
    subst (λ n. NamesExist n (length c.args.memory.now) claim) (sym c.requires.cores)
    (subst (λ n. NamesExist (length c.args.test.now.programs) n claim) (sym c.requires.locations) fits.names_known)
