-- Runs that have ended, and what they leave: the order of their commits, and the final state of that order.
use Rattle.std.specs.Prelude.{ℕ, ◌≡◌, true, List}
use Rattle.tso_terms.specs.Litmus.{Litmus}
use Rattle.tso_terms.specs.Axioms.{IsTsoExecution}
use Rattle.tso_terms.specs.FinalState.{final_words, final_registers}
pub use Rattle.tso_terms.specs.FlatMachine.{registers_in}
use Rattle.tso_terms.specs.Runs.{Run, run}
use Rattle.tso_terms.specs.declared.choice.Choice.{Choice}

-- the choices end the test
abbrev pub End : Litmus → ℕ → List Choice → Type 0
End t depth choices = (run t depth choices).ended ≡ true

-- the commits are a TSO execution of the test, and memory and registers are the final state of that order
pub record IsExecution (t : Litmus) (r : Run) : Type 0 where
  pub order : IsTsoExecution t r.commits
  pub memory : r.state.memory ≡ final_words t r.commits
  pub registers : registers_in r.state ≡ final_registers t r.commits
