use Rattle.printed_laws.proofs.Vocabulary.{true, false, ◌∙◌}
use Rattle.printed_laws.proofs.states.Claims.{TextsAreDecided, outcomes-tell, outcomes-tell-nothing, why-tells, ok-is-good}
use Rattle.printed_laws.proofs.outcomes.statuses_tell_the_verdict.Goals as goal

pub returns : goal.returns
returns c =
    let decided : TextsAreDecided = record {
      once = c.test_is_spelled_once.ensures.once;
      never_both = c.test_is_spelled_once.ensures.never_both;
    } in
    record {
      outcomes_no = λ search set json. outcomes-tell search set json false decided;
      outcomes_ok = λ search set json. outcomes-tell search set json true decided;
      outcomes_unasserted = λ search set json verdict. outcomes-tell-nothing search set json verdict decided;
      why_no = λ plan set json. why-tells plan set json true false decided;
      why_ok = λ plan set json assert input out status t condition small spelled is answer says.
          why-tells plan set json assert true decided input out status t condition small spelled is answer says ∙ ok-is-good assert;
      why_unasserted = λ plan set json. why-tells plan set json false false decided;
    }
