use Rattle.promises.proofs.Vocabulary.{subst, AreAlike}
use Rattle.promises.proofs.outcomes.all_states.what_is_kept_is_reached_but_for_dead_registers.Goals as goal

pub returns : goal.returns
returns c =
    λ depth t hidden state kept choices h.
    (h.last, h.leads, subst (λ z. AreAlike t hidden z h.last) h.kept_is (c.dead_registers_change_nothing.ensures.twice t hidden h.last))
