-- What becomes of the observer that makes a trace, or its last step alone.
use Rattle.std.specs.Prelude.{ℕ, ◌≡◌, List, [], ◌∷◌, ◌++◌, map, Some, None, IfSome, option_map}
use Rattle.trace_report.specs.Vocabulary.{array, Configuration, Data, items_of, Litmus, machine_after, new_machine, ProtocolKind, Running}
use Rattle.trace_report.specs.Vocabulary.{shown_step, table_of, view}
use Rattle.serde_json.specs.declared.value.Value.{Value}
use Rattle.tso_terms.specs.declared.choice.Choice.{Choice}
use Rattle.trace_report.specs.Known.{StepNamesExist}
use Rattle.trace_report.specs.MachineJson.{machine_json}
use Rattle.trace_report.specs.OwnWords.{own_words}
use Rattle.trace_report.specs.TraceJson.{last_from, sourced_by, start_json, step_to, steps_json}
use Rattle.trace_report.specs.inner.Looked.{sourced, told_last, trace_with}
use Rattle.trace_report.specs.declared.kept_trace.Extent.{Extent}
use Rattle.trace_report.specs.declared.kept_trace.Extent.TheVariants.{Whole, LastStep}
use Rattle.trace_report.specs.declared.kept_trace.Tracer.{Tracer}

-- what is told of a run with this machine before its first choice, these steps, and this as what is told last
abbrev pub told_as : Extent → Data → List Data → Data → Data
told_as Whole start steps last = trace_with start (array (items_of steps))
told_as LastStep start steps last = last

abbrev pub told_from : Extent → Running → List Choice → Data
told_from extent m choices = told_as extent (start_json m) (steps_json m m.test.words choices) (last_from m choices)

abbrev pub told_under : Extent → Litmus → ProtocolKind → Configuration → List Choice → Data
told_under extent t kind config choices = told_from extent (new_machine (table_of kind) config t) choices

-- what an observer has to tell of the machine as it now is
abbrev pub told_by : Tracer → Running → Data
told_by o m = told_as o.extent (view o.told) (map view o.steps.items) (told_last (option_map sourced o.last) m o.follower.memory.items)

-- the test has the names of what the last choice did
abbrev pub KnowsLast : Tracer → Type 0
KnowsLast o = IfSome o.last (λ told. StepNamesExist o.follower.test.now o.follower.config.shape.words (shown_step told))

-- where all is told, it begins with the machine before the first choice
pub record OpensTrace (old : Tracer) (m : Running) (new : Tracer) : Type 0 where
  pub extent : new.extent ≡ old.extent
  pub memory : new.follower.memory.items ≡ old.follower.memory.items
  pub start_is : old.extent ≡ Whole → view new.told ≡ machine_json m old.follower.memory.items
  pub steps_are : new.steps.items ≡ old.steps.items
  pub last_is : option_map sourced new.last ≡ None

-- and this step is added to those before it
abbrev pub AddsStep : Extent → List Value → Data → List Value → Type 0
AddsStep extent old step new = extent ≡ Whole → map view new ≡ map view old ++ step ∷ []

pub record MakesStep (old : Tracer) (m : Running) (number : ℕ) (choice : Choice) (new : Tracer) : Type 0 where
  pub extent : new.extent ≡ old.extent
  pub memory : new.follower.memory.items ≡ own_words (machine_after m choice) old.follower.memory.items
  pub start_is : view new.told ≡ view old.told
  pub steps_are : AddsStep old.extent old.steps.items (step_to (sourced_by m choice) (machine_after m choice) new.follower.memory.items) new.steps.items
  pub last_is : option_map sourced new.last ≡ Some (sourced_by m choice)
