use Rattle.machine_core.proofs.Vocabulary.{chosen, access_of, use_at}
use Rattle.machine_core.proofs.Counted.{choice-use, use-told}
use Rattle.machine_core.proofs.bus_laws.accesses_are_what_is_counted.Goals as goal

pub returns : goal.returns
returns c = record {
  uses = λ bus t depth commits state caches choice possible.
      choice-use t depth state.flat caches choice (c.pending_stores_are_own.ensures bus t depth commits state possible);
  answers = λ bus t depth commits state caches choice possible.
      use-told caches (chosen choice) (access_of t depth state.flat choice) (use_at t depth state.flat caches choice)
      (choice-use t depth state.flat caches choice (c.pending_stores_are_own.ensures bus t depth commits state possible));
}
