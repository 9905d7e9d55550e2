use Rattle.promises.proofs.Vocabulary.{[], ap, seen, IsAllowedByTso, IsAllowedSequentially}
use Rattle.promises.proofs.ExactSearches.{are-exactly}
use Rattle.promises.proofs.outcomes.all_states.where_no_register_is_hidden_they_are_exactly_those.Goals as goal

pub returns : goal.returns
returns c =
    let all = c.dead_registers_change_nothing.ensures.nothing_hidden in
    record {
      tso = λ t finals registers memory are. are-exactly (IsAllowedByTso t) finals all are registers memory;
      sequential = λ t finals registers memory are. are-exactly (IsAllowedSequentially t) finals all are registers memory;
      once = λ finals i j f g distinct p q same. distinct i j f g p q (ap (seen []) same);
    }
