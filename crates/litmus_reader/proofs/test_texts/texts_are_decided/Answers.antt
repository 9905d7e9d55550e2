use Rattle.litmus_reader.proofs.Decided.{decided}
use Rattle.litmus_reader.proofs.test_texts.texts_are_decided.Goals as goal

pub returns : goal.returns
returns c = decided
