-- What becomes of one who writes a line for each choice of a run.
use Rattle.std.specs.Prelude.{ℕ, ◌≡◌, List, ◌++◌, string_bytes, codes}
use Rattle.tso_cli.specs.Vocabulary.{Choice, end_line, trace_step_line, trace_step_of}
use Rattle.protocol_tables.specs.PrintedTable.{line}
use Rattle.machine_core.specs.Running.{Running}
use Rattle.tso_cli.specs.declared.told_run.Teller.{Teller}

-- so many choices were made, and this was written
pub record HasWritten (old new : Teller) (made : ℕ) (more : List ℕ) : Type 0 where
  pub test : new.test.now ≡ old.test.now
  pub config : new.config ≡ old.config
  pub number : new.made ≡ made
  pub text : string_bytes new.text ≡ string_bytes old.text ++ more

-- first `Trace`, at the choice with this number on a machine its line, and at the end how many they are
abbrev pub Opens : Teller → Running → Teller → Type 0
Opens old m new = HasWritten old new old.made (line (codes "Trace"))

abbrev pub Tells : Teller → Running → ℕ → Choice → Teller → Type 0
Tells old m number choice new = HasWritten old new number (trace_step_line old.test.now old.config.shape.words number (trace_step_of m choice))

abbrev pub Closes : Teller → Running → Teller → Type 0
Closes old m new = HasWritten old new old.made (end_line old.made)
