use Rattle.abstract_machine.proofs.Vocabulary.{refl, lock}
use Rattle.abstract_machine.proofs.locked_instructions_begin_whatever_the_buffer_has.Goals as goal

pub returns : goal.returns
returns c = λ t m p h loc reg update st free. (_, lock loc reg update st free, refl, refl)
