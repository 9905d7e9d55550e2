use Rattle.tso_cli.proofs.OneTextLemmas.{AreDecided, runs-one, traces-one, sweeps-one, counts-one, checks-one, witnesses-one}
use Rattle.tso_cli.proofs.OneSearchLemmas.{searches-one}
use Rattle.tso_cli.proofs.OneReasonLemmas.{reasons-one}
use Rattle.tso_cli.proofs.headline_laws.headlines_leave_one_text.Goals as goal

pub returns : goal.returns
returns c =
    let law = c.texts_are_read_one_way.ensures in
    let decided : AreDecided = record {
      tests = c.texts_are_decided.ensures;
      orders = c.order_is_spelled_once.ensures.either;
      judged = c.each_order_is_judged.ensures;
    } in
    record {
      runs = λ kind config set json input out other. runs-one kind config set json input out other law decided;
      traces = λ kind config set json input out other. traces-one kind config set json input out other law decided;
      sweeps = λ kind config set plan input out other. sweeps-one kind config set plan input out other law decided;
      counts = λ kind config set plan json input out other. counts-one kind config set plan json input out other law decided;
      witnesses = λ depth set input out other. witnesses-one depth set input out other law decided;
      checks = λ set input out other. checks-one set input out other law decided;
      outcomes = λ search set json again assert asserted input out other.
          searches-one search set json again assert asserted input out other law decided c.outcomes_of_the_same_values_are_alike.ensures;
      reasons = λ plan another set json again assert asserted input out other.
          reasons-one plan another set json again assert asserted input out other law decided;
    }
