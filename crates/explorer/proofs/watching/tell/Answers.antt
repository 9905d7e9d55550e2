use Rattle.explorer.proofs.Vocabulary.{sym, ◌∙◌}
use Rattle.explorer.proofs.Linking.{kept-at}
use Rattle.explorer.proofs.watching.tell.Goals as goal

pub unpack-requires : goal.unpack-requires
unpack-requires g c = c.loop-at.invariant ∙ sym (kept-at c.args.plan.now.test.now _ c.loop-at.at c.index.result.now c.requires.cores c.index.ensures).cores
