-- What a trace shows of a choice, as one record: text and JSON are functions of it.
use Rattle.std.specs.Prelude.{ℕ, Bool, List, Option}
use Rattle.std.specs.Option.{option_map}
use Rattle.basic_laws.specs.Types.{Core, Choice, Outcome, Entry}
use Rattle.snoop_bus.specs.declared.access.AccessKind.{AccessKind}
use Rattle.trace_report.specs.declared.step.Step.{Step}
use Rattle.trace_report.specs.declared.step.Moved.{Moved}
use Rattle.trace_report.specs.declared.step.LineRequest.{LineRequest}
use Rattle.trace_report.specs.declared.step.StateChange.{StateChange}

-- the choice and its outcome; the entries that it committed, or of a store that became pending the entry that it is to
-- commit; the register that it moved a value to; whether the core's own pending stores answered it; what its access was; what
-- went on the bus; whose copy was sent to memory; the dirty line that left; the lines whose state changed, by core and then by
-- line; and the core's pending stores after it, oldest first, where they changed
pub record ShownStep : Type 0 where
  pub choice : Choice
  pub outcome : Outcome
  pub entries : List Entry
  pub moved : Option Moved
  pub forwarded : Bool
  pub access : Option AccessKind
  pub request : Option LineRequest
  pub flushed : Option Core
  pub wrote_back : Option ℕ
  pub changes : List StateChange
  pub buffer : Option (List Entry)

abbrev pub shown_step : Step → ShownStep
shown_step s = record {
  choice = s.choice;
  outcome = s.outcome;
  entries = s.entries.items;
  moved = s.moved;
  forwarded = s.forwarded;
  access = s.access;
  request = s.request;
  flushed = s.flushed;
  wrote_back = s.wrote_back;
  changes = s.changes.items;
  buffer = option_map (λ stores. stores.items) s.buffer;
}
