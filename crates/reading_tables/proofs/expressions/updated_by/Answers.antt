use Rattle.reading_tables.proofs.Vocabulary.{length}
use Rattle.reading_tables.proofs.expressions.updated_by.Goals as goal

pub make-requires-clause-making : goal.make-requires-clause-making
make-requires-clause-making c =
    (c.requires.word, c.operand_in-value.ensures.made (length c.args.walk.now.makings.items) c.requires.walk.registers)

pub make-requires-in-CompareExchange-clause-making : goal.make-requires-in-CompareExchange-clause-making
make-requires-in-CompareExchange-clause-making c =
    let n = length c.args.walk.now.makings.items in
    let registers = c.requires.walk.registers in
    (c.requires.word, (c.held_in-eax.ensures.made n registers, c.held_in-new.ensures.made n registers))

pub returns-in-Replace-clause-made : goal.returns-in-Replace-clause-made
returns-in-Replace-clause-made c = c.operand_in.ensures.made (length c.args.walk.now.makings.items) c.requires.walk.registers
