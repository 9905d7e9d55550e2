-- Which orders no choices reach at a depth. An order in which many stores come after a later load needs a store buffer for
-- as many. (This project's profile.)
use Rattle.std.specs.Prelude.{ℕ, ◌≡◌, ◌≢◌, ◌<◌, List}
use Rattle.tso_terms.specs.Litmus.{Litmus}
use Rattle.tso_terms.specs.Runs.{run}
use Rattle.basic_laws.specs.Types.{Entry, Choice}
use Rattle.tso_laws.specs.Depth.{needed}
use Rattle.scheduler.specs.declared.witness_fault.WitnessFault.{WitnessFault}
use Rattle.scheduler.specs.declared.witness_fault.WitnessFault.TheVariants.{Depth}

-- the order needs more than this depth, and the fault names what it needs
abbrev pub NamesDepth : ℕ → List Entry → WitnessFault → Type 0
NamesDepth depth order fault = (fault ≡ Depth (needed order)) × (depth < needed order)

-- no choices at this depth end with the order
abbrev pub IsOutOfReach : Litmus → ℕ → List Entry → Type 0
IsOutOfReach t depth order = (choices : List Choice) → (run t depth choices).commits ≢ order
