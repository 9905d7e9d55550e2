-- The registers and the memory that an order of a test leaves: the last write to each location, and what the threads
-- compute from their reads. No machine has a part in it. (Primer, chapter 4.)
use Rattle.std.specs.Prelude.{ℕ, ◌+◌, List, [], ◌∷◌, filter, slice_index_or}
use Rattle.tso_terms.specs.Thread.{registers_after}
use Rattle.tso_terms.specs.ProgramOrder.{writes_to}
use Rattle.tso_terms.specs.Axioms.{last_value}
use Rattle.tso_terms.specs.ProgramEntries.{read_values}
use Rattle.tso_terms.specs.Litmus.{Litmus}
use Rattle.tso_terms.specs.declared.instruction.Instr.{Instr}
use Rattle.tso_terms.specs.declared.execution.Entry.{Entry}

-- the value of the last write to a location in the order, else this word
abbrev pub word_after : ℕ → List Entry → ℕ → ℕ
word_after loc order word = last_value (filter (writes_to loc) order) word

abbrev pub words_from : ℕ → List ℕ → List Entry → List ℕ
words_from loc [] order = []
words_from loc (word ∷ words) order = word_after loc order word ∷ words_from (loc + 1) words order

-- the word of each location
abbrev pub final_words : Litmus → List Entry → List ℕ
final_words t order = words_from 0 t.words order

-- the registers of a core, by the order's own read values
abbrev pub registers_of : ℕ → List Instr → List ℕ → List Entry → List ℕ
registers_of core program registers order = registers_after program registers (read_values core 0 program order)

abbrev pub registers_from : ℕ → List (List Instr) → List (List ℕ) → List Entry → List (List ℕ)
registers_from core [] registers order = []
registers_from core (p ∷ ps) registers order =
    registers_of core p (slice_index_or registers core []) order ∷ registers_from (core + 1) ps registers order

-- the registers of each core
abbrev pub final_registers : Litmus → List Entry → List (List ℕ)
final_registers t order = registers_from 0 t.programs t.registers order
