-- What waits until nothing is pending, and drains, with the pending stores told apart from the core.
use Rattle.std.proofs.Common.{ℕ, Option, List, [], ◌∷◌, take, drop, if◌then◌else◌}
use Rattle.tso_terms.specs.Thread.{entry, fence}
use Rattle.tso_terms.specs.FlatMachine.{CoreState, Effect, is_none_pending, stalled, advanced, advanced_taking}
use Rattle.basic_laws.specs.Types.{Reg, Loc, Entry, LR, LW, Committed}
use Rattle.tso_terms.specs.declared.choice.Stall.TheVariants as stall

abbrev pub fenced_with : ℕ → CoreState → List Entry → Effect
fenced_with core s pending =
    if is_none_pending pending then record { outcome = Committed; after = advanced s; commits = fence core s.place ∷ [] } else stalled stall.Fence s

abbrev pub locked_with : ℕ → CoreState → Loc → Option Reg → ℕ → ℕ → List Entry → Effect
locked_with core s loc reg word value pending =
    if is_none_pending pending
    then record {
      outcome = Committed;
      after = advanced_taking s reg word;
      commits = entry core s.place LR loc word ∷ (entry core s.place LW loc value ∷ []);
    }
    else stalled stall.Lock s

abbrev pub drain_with : CoreState → List Entry → Effect
drain_with s pending =
    if is_none_pending pending
    then stalled stall.Empty s
    else record { outcome = Committed; after = record { place = s.place; registers = s.registers; pending = drop 1 pending }; commits = take 1 pending }
