-- Orders that runs end with: that these are exactly the TSO executions is the law that makes the machine a machine for TSO.
use Rattle.std.specs.Prelude.{ℕ, ◌≡◌, true, List, length}
use Rattle.tso_terms.specs.Litmus.{Litmus}
use Rattle.tso_terms.specs.Runs.{run, CoresExist}
use Rattle.basic_laws.specs.Types.{Entry, Choice}

-- at this depth some choices of the test's cores end the test with this very order
pub record IsReached (t : Litmus) (depth : ℕ) (order : List Entry) : Type 0 where
  pub choices : List Choice
  pub cores : CoresExist (length t.programs) choices
  pub ended : (run t depth choices).ended ≡ true
  pub commits : (run t depth choices).commits ≡ order
