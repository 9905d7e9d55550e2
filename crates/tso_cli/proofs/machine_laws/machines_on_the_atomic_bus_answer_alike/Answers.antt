use Rattle.tso_cli.proofs.MachineLemmas.{runs-alike, traces-alike, sweeps-alike}
use Rattle.tso_cli.proofs.machine_laws.machines_on_the_atomic_bus_answer_alike.Goals as goal

pub returns : goal.returns
returns c =
    let texts = c.texts_are_read_one_way.ensures in
    record {
      runs = λ kind other config third set json input out again status too. runs-alike kind other config third set json input out again status too texts;
      traces = λ kind other config third set json input out again status too. traces-alike kind other config third set json input out again status too texts;
      sweeps = λ kind other config third set plan input out again status too. sweeps-alike kind other config third set plan input out again status too texts;
    }
