use Rattle.abstract_machine.proofs.Vocabulary.{refl, write, move, locked_write}
use Rattle.abstract_machine.proofs.stores_and_moves_are_made_at_any_time.Goals as goal

pub returns : goal.returns
returns c = record {
  store = λ t m p h loc operand st. (_, write loc operand st, refl, refl);
  locked_write = λ t m p h loc reg update v st. (_, locked_write loc reg update v st, refl, refl);
  move = λ t m p h change st. (_, move change st, refl, refl);
}
