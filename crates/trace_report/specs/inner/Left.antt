-- What a choice left, as it is looked at after the choice: what is new there, beside how many entries there were before.
use Rattle.std.specs.Prelude.{ℕ, ◌≡◌, List, ◌++◌, length, drop}
use Rattle.std.specs.Option.{option_map}
use Rattle.tso_terms.specs.FlatMachine.{core_of, chosen}
use Rattle.basic_laws.specs.Types.{Choice, Outcome, Entry}
use Rattle.machine_core.specs.Running.{Running}
use Rattle.trace_report.specs.inner.Steps.{waited_before}
use Rattle.trace_report.specs.Steps.{states_of, changes_in, buffer_if_changed}
use Rattle.trace_report.specs.declared.states.PlacedState.{PlacedState}
use Rattle.trace_report.specs.declared.telling.Left.{Left}

-- the chosen core's pending stores on a machine
abbrev pub stores_on : Running → Choice → List Entry
stores_on m choice = (core_of m.state.flat (chosen choice)).pending

abbrev pub waited_on : Running → Choice → Outcome → ℕ
waited_on m choice outcome = waited_before outcome choice (length (stores_on m choice))

-- by the machine after a choice with this outcome, the states of its lines before it, and how many entries were committed before
-- it: the entries, those of the lines that changed, and the pending stores where they changed
pub record IsLeftBy (m : Running) (before : List PlacedState) (choice : Choice) (outcome : Outcome) (committed : ℕ) (l : Left) : Type 0 where
  pub entries : l.entries.items ≡ drop committed m.commits ++ drop (waited_on m choice outcome) (stores_on m choice)
  pub changes : l.changes.items ≡ changes_in before (states_of m)
  pub buffer : option_map (λ stores. stores.items) l.buffer ≡ buffer_if_changed (waited_on m choice outcome) (stores_on m choice)
