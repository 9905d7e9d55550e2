-- What holds of the commits and the state after any list of choices, whether the test has ended or not: the flat machine
-- comes to the same state, with the parts of locked instructions put together.
use Rattle.std.specs.Prelude.{ℕ, ◌≡◌, List, ◌++◌}
use Rattle.tso_terms.specs.Litmus.{Litmus}
use Rattle.tso_terms.specs.EitherBus.{BusState}
use Rattle.tso_terms.specs.Together.{put_together}
use Rattle.basic_laws.specs.Types.{Bus, Entry}
use Rattle.tso_laws.specs.Choices.{IsPossible}
use Rattle.tso_laws.specs.Holders.{HolderFits}
use Rattle.tso_laws.specs.Between.{ArePaired}
use Rattle.tso_laws.specs.BusRuns.{waiting}

-- the flat machine comes to the same places, registers, pending stores and memory, and commits the same with the parts of
-- each locked instruction put together; what was committed between the two parts; and who holds the bus
pub record SoFarOn (bus : Bus) (t : Litmus) (depth : ℕ) (commits : List Entry) (state : BusState) : Type 0 where
  pub flat_commits : List Entry
  pub possible : IsPossible t depth flat_commits state.flat
  pub together : flat_commits ++ waiting state.holder ≡ put_together commits
  pub pairs : ArePaired commits state.holder
  pub holder : HolderFits bus t depth state.flat state.holder
