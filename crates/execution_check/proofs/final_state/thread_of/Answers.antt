use Rattle.std.proofs.Common.{ℕ, ◌≡◌, ◌≤◌, ◌++◌, List, [], length, drop, slice_index_or, refl, ap, sym, ◌∙◌, subst}
use Rattle.std.specs.Prelude.{IfOk}
use Rattle.tso_terms.specs.declared.execution.Entry.{Entry}
use Rattle.tso_terms.specs.declared.instruction.Instr.{Instr}
use Rattle.tso_terms.specs.ProgramEntries.{read_values}
use Rattle.tso_terms.specs.Thread.{entries_of, registers_after}
use Rattle.order_breaches.proofs.Made.{reads-count}
use Rattle.execution_check.proofs.Growing.{all-made}
use Rattle.execution_check.proofs.final_state.thread_of.Goals as goal

-- all reads of the program have their values
all-read : (core place : ℕ) (items program : List Instr) (order : List Entry) (i : ℕ) (values : List ℕ) → length items ≤ i
    → read_values core 0 items order ≡ values ++ read_values core place (drop i items) order → items ≡ program → values ≡ read_values core 0 program order
all-read core place items program order i values over so same =
    all-made (λ is. read_values core place is order) refl items i values _ over so ∙ ap (λ is. read_values core 0 is order) same

pub thread_entries-requires-clause-reads : goal.thread_entries-requires-clause-reads
thread_entries-requires-clause-reads c =
    let program = slice_index_or c.args.test.now.programs c.args.core.0 [] in
    ap length (c.deref.ensures.value
    ∙ all-read c.args.core.0 c.loop-instr.place c.program-instr-items.result.now program c.args.order.now
    c.loop-instr.instr-index c.loop-instr.values.items c.loop-instr-test.false
    c.loop-instr.invariant.values c.program-instr-items.ensures.value)
    ∙ reads-count c.args.core.0 0 program c.args.order.now

pub returns-clause-entries : goal.returns-clause-entries
returns-clause-entries c =
    let program = slice_index_or c.args.test.now.programs c.args.core.0 [] in
    subst (λ values.
    IfOk c.thread_entries.result
    (λ thread.
    thread.entries.items
    ≡ entries_of c.args.core.0 0 program (slice_index_or c.args.test.now.registers c.args.core.0 []) values))
    (c.deref.ensures.value
    ∙ all-read c.args.core.0 c.loop-instr.place c.program-instr-items.result.now program c.args.order.now
    c.loop-instr.instr-index c.loop-instr.values.items c.loop-instr-test.false
    c.loop-instr.invariant.values c.program-instr-items.ensures.value)
    c.thread_entries.ensures.entries

pub returns-clause-registers : goal.returns-clause-registers
returns-clause-registers c =
    let program = slice_index_or c.args.test.now.programs c.args.core.0 [] in
    subst (λ values.
    IfOk c.thread_entries.result
    (λ thread.
    thread.registers ≡ registers_after program (slice_index_or c.args.test.now.registers c.args.core.0 []) values))
    (c.deref.ensures.value
    ∙ all-read c.args.core.0 c.loop-instr.place c.program-instr-items.result.now program c.args.order.now
    c.loop-instr.instr-index c.loop-instr.values.items c.loop-instr-test.false
    c.loop-instr.invariant.values c.program-instr-items.ensures.value)
    c.thread_entries.ensures.registers
