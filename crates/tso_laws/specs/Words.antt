-- Values are words: of 32 bits, in all that a run commits and leaves. Sums are taken modulo 2^32, so none gets larger.
use Rattle.std.specs.Prelude.{List, All}
use Rattle.tso_terms.specs.Registers.{IsWord, AreRegisters}
use Rattle.tso_terms.specs.FlatMachine.{State}
use Rattle.tso_terms.specs.declared.execution.Entry.{Entry}

-- the value of the entry is a word
abbrev pub HasWord : Entry → Type 0
HasWord e = IsWord e.value

-- what was committed and what memory holds are words, and each core has its six registers
pub record HoldsWords (order : List Entry) (state : State) : Type 0 where
  pub values : All HasWord order
  pub memory : All IsWord state.memory
  pub registers : All (λ core. AreRegisters core.registers) state.cores
