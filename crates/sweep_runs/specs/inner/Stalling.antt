-- Choices of a run that stalled since its machine last changed, and so stall again.
use Rattle.std.specs.Prelude.{ℕ, ◌≡◌, ◌≤◌, length, Option, Some, None, slice_set, slice_index_or, ◌+◌, ◌*◌}
use Rattle.basic_laws.specs.Types.{Choice, Step, Drain, Stall, Stalled}
use Rattle.tso_terms.specs.Limits.{most_cores}
use Rattle.machine_core.specs.Running.{Running, machine_effect, machine_after, AnswerFits}
use Rattle.sweep_runs.specs.declared.stalling.Stalling.{Stalling}

-- where a choice has its reason: twice its core, and 1 more for a drain
abbrev pub place_of_choice : Choice → ℕ
place_of_choice (Step core) = 2 * core.0
place_of_choice (Drain core) = 2 * core.0 + 1

-- why a choice stalled, if it did
abbrev pub reason_at : Choice → Stalling → Option Stall
reason_at choice s = slice_index_or s.reasons (place_of_choice choice) None

-- a choice stalled for this reason
abbrev pub noted_at : Choice → Stall → Stalling → Stalling
noted_at choice reason s = record { reasons = slice_set s.reasons (place_of_choice choice) (Some reason) }

-- a choice on this machine stalls for this reason and changes nothing
pub record Stalls (m : Running) (choice : Choice) (reason : Stall) : Type 0 where
  pub outcome : (machine_effect m choice).effect.outcome ≡ Stalled reason
  pub same : machine_after m choice ≡ m
  pub answer : AnswerFits m choice

-- so does each that stalled
abbrev pub AllStall : Stalling → Running → Type 0
AllStall s m = (choice : Choice) (reason : Stall) → reason_at choice s ≡ Some reason → Stalls m choice reason

-- what stalled on this machine stalls again, and each of its choices has a place
pub record KnowsMachine (s : Stalling) (m : Running) : Type 0 where
  pub stall : AllStall s m
  pub cores : length m.test.programs ≤ most_cores
