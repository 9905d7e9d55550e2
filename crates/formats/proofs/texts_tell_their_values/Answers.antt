use Rattle.formats.proofs.Telling.{texts-tell}
use Rattle.formats.proofs.texts_tell_their_values.Goals as goal

pub returns : goal.returns
returns c = texts-tell
