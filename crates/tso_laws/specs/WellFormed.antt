-- What the laws ask of a test: that its locations exist and its values are words. How long its programs are, or how many, makes no difference.
use Rattle.std.specs.Prelude.{◌≡◌, List, length, All}
use Rattle.tso_terms.specs.Litmus.{Litmus, KnownLocation, HasWords}
use Rattle.basic_laws.specs.Types.{Instr}

pub record IsWellFormed (t : Litmus) : Type 0 where
  pub registers_given : length t.registers ≡ length t.programs
  pub words_given : length t.words ≡ length t.locations
  pub values : HasWords t
  pub locations_known : All (λ (program : List Instr). All (KnownLocation (length t.locations)) program) t.programs
