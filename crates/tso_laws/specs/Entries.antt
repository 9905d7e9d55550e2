-- What every entry of a test's programs is: of a core, a place and a location of the test, whatever values its reads
-- return.
use Rattle.std.specs.Prelude.{◌<◌, ◌≡◌, ◌≢◌, length}
use Rattle.tso_terms.specs.Litmus.{Litmus}
use Rattle.tso_terms.specs.FlatMachine.{program_of}
use Rattle.basic_laws.specs.Types.{Entry, F}

-- its core is one of the test's, its place is one of that core's program, and its location is one of the test's; but a
-- fence has location 0 and value 0
pub record FitsTest (t : Litmus) (e : Entry) : Type 0 where
  pub core : e.core.0 < length t.programs
  pub place : e.place < length (program_of t e.core.0)
  pub location : e.kind ≢ F → e.loc.0 < length t.locations
  pub fence : e.kind ≡ F → (e.loc.0 ≡ 0) × (e.value ≡ 0)
