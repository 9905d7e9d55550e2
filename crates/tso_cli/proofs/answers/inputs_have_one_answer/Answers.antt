use Rattle.tso_cli.proofs.OneAnswer.{one_answer}
use Rattle.tso_cli.proofs.Revisited.{same-states-shown}
use Rattle.tso_cli.proofs.answers.inputs_have_one_answer.Goals as goal

pub returns : goal.returns
returns c =
    let texts = c.texts_are_read_one_way.ensures in
    record {
      commands = λ s input out other status again one. one_answer s input out other status again texts one;
      searches = λ search set json assert input out other status again.
          same-states-shown search set json assert input out other status again texts c.outcomes_of_the_same_values_are_alike.ensures;
    }
