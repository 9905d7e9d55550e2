use Rattle.litmus_reader.proofs.Vocabulary.{◌+◌, ◌*◌, ◌<◌, length, claim_of, And, Or, pieces, texts, claimed, AndClaim, OrClaim, unit_at}
use Rattle.litmus_reader.proofs.Vocabulary.{conjunction, proposition_at}
use Rattle.litmus_reader.proofs.Chains.{ChainAfter}
use Rattle.litmus_reader.proofs.condition.+condition.Given as goal

abbrev pub decreases-unit_at : goal.decreases-unit_at
decreases-unit_at l = 4 * l.opens

abbrev pub decreases-opened_at : goal.decreases-opened_at
decreases-opened_at l = 4 * l.opens + 3

abbrev pub decreases-conjunction_at : goal.decreases-conjunction_at
decreases-conjunction_at l = 4 * l.opens + 1

abbrev pub decreases-proposition_at : goal.decreases-proposition_at
decreases-proposition_at l = 4 * l.opens + 2

abbrev pub invariant-conjunction_at-loop-next : goal.invariant-conjunction_at-loop-next
invariant-conjunction_at-loop-next l = record {
  chain : ChainAfter And AndClaim (unit_at l.around.stop l.around.cores l.opens)
      (claimed (claim_of l.prop) l.atoms (texts l.names.items) (pieces l.rest))
      (conjunction (unit_at l.around.stop l.around.cores l.opens) l.fn.atoms (texts l.fn.names.items) (pieces l.fn.tokens));
  within : length l.rest < length l.fn.tokens;
}

abbrev pub decreases-conjunction_at-loop-next : goal.decreases-conjunction_at-loop-next
decreases-conjunction_at-loop-next l = length l.rest

abbrev pub invariant-proposition_at-loop-next : goal.invariant-proposition_at-loop-next
invariant-proposition_at-loop-next l = record {
  chain : ChainAfter Or OrClaim (conjunction (unit_at l.around.stop l.around.cores l.opens))
      (claimed (claim_of l.prop) l.atoms (texts l.names.items) (pieces l.rest))
      (proposition_at l.around.stop l.around.cores l.opens l.fn.atoms (texts l.fn.names.items) (pieces l.fn.tokens));
  within : length l.rest < length l.fn.tokens;
}

abbrev pub decreases-proposition_at-loop-next : goal.decreases-proposition_at-loop-next
decreases-proposition_at-loop-next l = length l.rest
