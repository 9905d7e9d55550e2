use Rattle.std.proofs.Common.{◌≡◌, ◌++◌, drop, string_bytes}
use Rattle.protocol_tables.specs.PrintedTable.{rows}
use Rattle.protocol_tables.proofs.printing.write_rows.Given as goal

abbrev pub invariant-loop-state : goal.invariant-loop-state
invariant-loop-state g l =
    string_bytes l.text ++ rows (g.P.Protocol.table l.protocol) (drop l.state-index l.states)
    ≡ string_bytes l.initial.text ++ rows (g.P.Protocol.table l.protocol) l.states
