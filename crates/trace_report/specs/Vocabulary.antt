-- The words from elsewhere that the definitions of JSON use, in one place: each file takes its own from here.
pub use Rattle.serde_json.specs.Data.{array, boolean, Data, member, Members, no_members, null, object, put, string}
pub use Rattle.serde_json.specs.View.{items_of, view}
pub use Rattle.tso_terms.specs.FlatMachine.{chosen, core_of}
pub use Rattle.tso_terms.specs.Litmus.{IsTest, Litmus}
pub use Rattle.tso_terms.specs.Registers.{name_of}
pub use Rattle.basic_laws.specs.Types.{Asked, Buffered, Committed, Fence, Instr, Load, Loc, Moved, Outcome, SetImm, SetReg, Stall, Stalled}
pub use Rattle.basic_laws.specs.Types.{StoreImm, StoreReg, Xadd, Xchg}
pub use Rattle.scheduler.specs.Printed.{printed_choice}
pub use Rattle.protocol_tables.specs.Laws.{is_dirty}
pub use Rattle.protocol_tables.specs.Tables.{table_of}
pub use Rattle.protocol_tables.specs.declared.kind.ProtocolKind.{ProtocolKind}
pub use Rattle.protocol_tables.specs.declared.requests.Transient.TheVariants.{ImD, IsD, SmD}
pub use Rattle.protocol_tables.specs.declared.state.State.{State}
pub use Rattle.protocol_tables.specs.declared.state.State.TheVariants.{M}
pub use Rattle.snoop_bus.specs.Asks.{tag_at}
pub use Rattle.multiprocessor.specs.Configuration.{Configuration}
pub use Rattle.machine_core.specs.Looking.{bus_holder_of}
pub use Rattle.machine_core.specs.Running.{configuration_of, machine_after, new_machine, Running}
pub use Rattle.machine_core.specs.declared.looking.BusHolder.{BusHolder}
pub use Rattle.tso_report.specs.Json.{count, memory_value, order_value, registers_value, run_members, unfinished_members}
pub use Rattle.tso_report.specs.Shown.{shown_run}
pub use Rattle.trace_report.specs.Lines.{access_name, line_name, names_in_line, outcome_name, printed_change, printed_core, printed_move}
pub use Rattle.trace_report.specs.Lines.{printed_request, stall_name, state_name, store_text, transient_name}
pub use Rattle.trace_report.specs.Shown.{shown_step, ShownStep}
pub use Rattle.trace_report.specs.Steps.{line_state, trace_step_of}
pub use Rattle.trace_report.specs.declared.step.LineState.{LineState}
pub use Rattle.machine_runs.specs.declared.driving.Ending.{Ending}
pub use Rattle.machine_runs.specs.declared.driving.Ending.TheVariants.{Ended, Unfinished}
