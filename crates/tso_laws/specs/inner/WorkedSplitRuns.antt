-- Choices and orders of the worked runs on the split bus, some of which break a premise on purpose.
use Rattle.std.specs.Prelude.{List, [], ◌∷◌, ◌++◌}
use Rattle.tso_terms.specs.FlatMachine.{step, drain}
use Rattle.tso_terms.specs.Litmus.{Litmus}
use Rattle.tso_terms.specs.Thread.{entry}
use Rattle.tso_terms.specs.Examples.{loc_x}
use Rattle.tso_terms.specs.SplitMachine.{Attempt}
use Rattle.basic_laws.specs.Types.{Eax, StoreImm, Xadd, Entry, W, LR, LW}
use Rattle.tso_laws.specs.WorkedSplitRuns.{added_beside, alone, hitting, missing, one}

-- beside a store to x, 0s 0s 1s 1d 0s, where the store is said to hit between the two parts of the addition
abbrev pub added_and_stored : Litmus
added_and_stored = added_beside (StoreImm loc_x 1 ∷ [])

abbrev pub store_between : List Attempt
store_between = missing (step 0) ∷ (missing (step 0) ∷ (missing (step 1) ∷ (hitting (drain 1) ∷ (missing (step 0) ∷ []))))

abbrev pub store_between_order : List Entry
store_between_order = entry 1 0 W loc_x 1 ∷ (entry 0 0 LR loc_x 0 ∷ (entry 0 0 LW loc_x 1 ∷ []))

-- a locked addition of 1 alone, and rounds of it: 0d 0s, twice and three times
abbrev pub added_alone : Litmus
added_alone = alone one (Xadd loc_x Eax ∷ [])

abbrev pub one_round : List Attempt
one_round = missing (drain 0) ∷ (missing (step 0) ∷ [])

abbrev pub two_rounds : List Attempt
two_rounds = one_round ++ one_round

abbrev pub three_rounds : List Attempt
three_rounds = one_round ++ (one_round ++ one_round)
