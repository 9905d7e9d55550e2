use Rattle.trace_report.proofs.Vocabulary.{◌≡◌, ◌++◌, ◌-◌, length, line_states, placed_states_from}
use Rattle.trace_report.proofs.states.states_of.Given as goal

abbrev pub invariant-loop-number : goal.invariant-loop-number
invariant-loop-number g l =
    l.states.items ++ placed_states_from l.machine l.number (length l.test.programs - l.number) ≡ placed_states_from l.machine 0 (length l.test.programs)

abbrev pub invariant-loop-line : goal.invariant-loop-line
invariant-loop-line g l =
    l.states.items ++ line_states l.machine l.number l.line (l.lines - l.line) ≡ l.initial.states.items ++ line_states l.machine l.number 0 l.lines
