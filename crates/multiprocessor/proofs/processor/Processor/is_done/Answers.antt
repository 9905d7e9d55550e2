use Rattle.multiprocessor.proofs.Vocabulary.{◌≡◌, ◌==◌, true, length, arith, nat_tests}
use Rattle.multiprocessor.proofs.CoreLemmas.{is_none_pending-stores}
use Rattle.multiprocessor.proofs.processor.Processor.is_done.Goals as goal

pub returns-then-self-program : goal.returns-then-self-program
returns-then-self-program c = λ core.
    let at_end : (length c.args.program.now == c.args.self.now.place) ≡ true = grind (arith, nat_tests, c.if-self-program.true) in
    rw at_end (is_none_pending-stores core c.is_empty.result c.args.self.now.stores.items c.is_empty.ensures.0 c.is_empty.ensures.1)
