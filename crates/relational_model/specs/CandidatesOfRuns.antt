-- Candidates of runs of the flat machine: the order of a run's commits, seen as a relational model sees it.
use Rattle.std.specs.Prelude.{◌≡◌}
use Rattle.tso_terms.specs.Litmus.{Litmus}
use Rattle.tso_terms.specs.FlatMachine.{registers_in}
use Rattle.tso_terms.specs.Runs.{Run}
use Rattle.relational_model.specs.Candidates.{Candidate, words_left, registers_left}
use Rattle.relational_model.specs.CandidatesOfOrders.{IsCandidateOf}

-- the candidate of the order that the run commits, which leaves the run's last memory and registers
pub record IsCandidateOfRun (t : Litmus) (r : Run) (c : Candidate) : Type 0 where
  pub order : IsCandidateOf t r.commits c
  pub memory : r.state.memory ≡ words_left t c
  pub registers : registers_in r.state ≡ registers_left t c
