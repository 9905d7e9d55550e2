use Rattle.tso_laws.proofs.Vocabulary.{All, subst, arith, needed, choices_along, HasWord}
use Rattle.tso_laws.proofs.Words.{runs-hold-words}
use Rattle.tso_laws.proofs.flat_runs.values_are_words.Goals as goal

pub returns : goal.returns
returns c = record {
  in_runs = runs-hold-words;
  in_executions = λ t order test execution.
      let led = c.every_execution_is_reached.ensures t (needed order) order test execution (omega arith) in
      subst (All HasWord) led.commits (runs-hold-words t (needed order) (choices_along t order) test).values;
}
