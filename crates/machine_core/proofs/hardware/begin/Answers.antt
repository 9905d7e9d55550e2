use Rattle.machine_core.proofs.Vocabulary.{rules, refl, ap, replicate, no_counts, ◌∙◌, subst, length, All, words_of, holder_of, IsCore}
use Rattle.machine_core.proofs.Beginning.{begun-state}
use Rattle.machine_core.proofs.TallyLemmas.{tallied-first}
use Rattle.machine_core.proofs.Splitting.{held-freed}
use Rattle.machine_core.proofs.hardware.begin.Goals as goal

pub returns-clause-begun : goal.returns-clause-begun
returns-clause-begun g c = record {
  fits = record {
    cores = c.in_ok-processors.ensures.count;
    on_bus = c.in_ok-bus.ensures.cores ∙ c.cores-2.ensures.value;
    words = ap length c.in_ok-bus.ensures.words ∙ c.initial_words.ensures.each;
    each = subst (λ depth. All (IsCore depth (length (words_of c.in_ok-bus.bus))) c.in_ok-processors.processors.items) c.depth.ensures.value
        (c.in_ok-processors.ensures.depths (length (words_of c.in_ok-bus.bus)));
  };
  held = held-freed c.args.test.now _ (record { memory = words_of c.in_ok-bus.bus; cores = _ }) _ _ (ap holder_of c.in_ok-bus.ensures.exact);
  state =
      begun-state _ _ c.args.test.now _ _ c.in_ok-processors.ensures.states
      (c.in_ok-bus.ensures.words ∙ c.initial_words.ensures.value) (ap holder_of c.in_ok-bus.ensures.exact);
  commits = search rules;
  tallied = tallied-first c.args.test.now _ _ c.cores.ensures.test c.in_ok-processors.ensures.states
      (c.in_ok-counts.ensures.items_if_clones_equal (λ y e. e)
      ∙ ap (λ n. replicate n no_counts) (c.from.ensures ∙ c.cores.ensures.value))
      (rw c.in_ok-bus.ensures.exact refl);
}
