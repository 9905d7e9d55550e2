use Rattle.formats.proofs.NoFloats.{data-has-no-float}
use Rattle.formats.proofs.data_has_no_float.Goals as goal

pub returns : goal.returns
returns c = data-has-no-float
