use Rattle.std.proofs.Common.{ℕ, List, subst}
use Rattle.memchr.specs.Find.{FindsNeedle}
use Rattle.tso_cli.proofs.dividing.next_signs.Goals as goal

pub returns : goal.returns
returns c = subst (λ (ds : List ℕ). FindsNeedle c.args.text.now ds 0 c.find.result) c.as_slice.ensures c.find.ensures
