-- What a step needs to be printed: each of its locations and lines is one of the test's, and so has a name.
use Rattle.std.specs.Prelude.{ℕ, ◌<◌, ◌*◌, length, All, IfSome}
use Rattle.tso_terms.specs.Litmus.{Litmus}
use Rattle.tso_terms.specs.FlatMachine.{State, core_of}
use Rattle.tso_terms.specs.declared.execution.Entry.{Entry}
use Rattle.order_builder.specs.PrintedOrder.{HasLocation}
use Rattle.trace_report.specs.Shown.{ShownStep}

-- a line of so many words, at least one, begins at a location of the test
pub record IsLine (t : Litmus) (words number : ℕ) : Type 0 where
  pub some : 0 < words
  pub begins : number * words < length t.locations

-- an entry is at a location of the test
abbrev pub IsAt : Litmus → Entry → Type 0
IsAt t e = e.loc.0 < length t.locations

-- each pending store of each core is
abbrev pub AreStoresKnown : Litmus → State → Type 0
AreStoresKnown t state = (core : ℕ) → All (IsAt t) (core_of state core).pending

pub record StepNamesExist (t : Litmus) (words : ℕ) (s : ShownStep) : Type 0 where
  pub entries : All (HasLocation t) s.entries
  pub request : IfSome s.request (λ r. IsLine t words r.line)
  pub wrote_back : IfSome s.wrote_back (IsLine t words)
  pub changes : All (λ c. IsLine t words c.line) s.changes
  pub buffer : IfSome s.buffer (All (IsAt t))
