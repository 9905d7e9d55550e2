use Rattle.litmus_reader.proofs.Decided.{read_so, refused_where_read}
use Rattle.litmus_reader.proofs.reader.read_test_in.Goals as goal

pub returns-clause-refused : goal.returns-clause-refused
returns-clause-refused c = refused_where_read c.args.set c.with_line.result c.args.text.now c.with_line.ensures.refused

pub returns-clause-refuses : goal.returns-clause-refuses
returns-clause-refuses c = λ fault is. c.with_line.ensures.refuses fault (read_so c.args.set c.args.text.now fault is)
