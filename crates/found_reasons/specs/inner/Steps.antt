-- The choices of a machine without store buffers: steps alone.
use Rattle.std.specs.Prelude.{Bool, true, false}
use Rattle.basic_laws.specs.Types.{Choice, Step, Drain}

abbrev pub is_step : Choice → Bool
is_step (Step core) = true
is_step (Drain core) = false
