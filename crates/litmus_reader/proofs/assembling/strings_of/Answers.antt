use Rattle.litmus_reader.proofs.Vocabulary.{IsUtf8}
use Rattle.litmus_reader.proofs.PartsAssembled.{text_at}
use Rattle.litmus_reader.proofs.assembling.strings_of.Goals as goal

pub string_of-requires : goal.string_of-requires
string_of-requires c = text_at (λ name. IsUtf8 name) c.args.names.now c.loop-name.name-index _ c.loop-name-test.true c.requires
