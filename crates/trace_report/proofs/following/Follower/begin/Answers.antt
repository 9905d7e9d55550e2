use Rattle.trace_report.proofs.Vocabulary.{sym, subst, IsLineSize, IsLookedAt}
use Rattle.trace_report.proofs.Whole.{looked-at}
use Rattle.trace_report.proofs.following.Follower.begin.Goals as goal

pub states_of-requires : goal.states_of-requires
states_of-requires g c =
    subst (λ n. IsLookedAt c.args.self.now.test.now n c.args.machine.now) (sym c.words.ensures.value)
    (looked-at c.args.self.now.test.now c.args.self.now.config c.args.machine.now c.requires.0 (subst IsLineSize c.words.ensures.value c.words.ensures.within))
