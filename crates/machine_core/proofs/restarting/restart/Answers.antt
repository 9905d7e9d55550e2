use Rattle.machine_core.proofs.Vocabulary.{◌≡◌, arith, ap, ◌∙◌, sym, subst, rules, replicate, no_counts, length, All, with_items_is}
use Rattle.machine_core.proofs.Vocabulary.{words_of, holder_of, awaited_of, core_states, IsCore}
use Rattle.std.specs.Vec.{vec_len}
use Rattle.machine_core.proofs.Beginning.{begun-state, begun-statistics}
use Rattle.machine_core.proofs.TallyLemmas.{tallied-first}
use Rattle.machine_core.proofs.Splitting.{held-freed}
use Rattle.machine_core.proofs.restarting.restart.Goals as goal

pub returns-clause-begun : goal.returns-clause-begun
returns-clause-begun g c =
    let m = c.args.hardware.now in
    let ps = with_items_is m.processors c.restart_cores.new.processors (search rules) in
    let before = c.deref_mut.ensures.value in
    let counted : vec_len m.counts ≡ length c.args.test.now.programs = omega (arith, m.counts.ok.0, c.requires.counts) in
    let n = length (words_of c.restart.new.self) in
    record {
      fits = record {
        cores = ap length (ps) ∙ c.restart_cores.ensures.count ∙ ap length before ∙ c.requires.fits.cores;
        on_bus = c.restart.ensures.machine.cores ∙ c.requires.fits.on_bus;
        words = ap length c.restart.ensures.words ∙ c.initial_words.ensures.each;
        each = subst (λ qs. All (IsCore m.config.depth n) qs) (sym ps)
            (c.restart_cores.ensures.depths m.config.depth (length (words_of m.bus)) n
            (subst (λ qs. All (IsCore m.config.depth (length (words_of m.bus))) qs) (sym before) c.requires.fits.each));
      };
      held = held-freed c.args.test.now _ (record { memory = words_of c.restart.new.self; cores = _ }) _ _ (ap holder_of c.restart.ensures.exact);
      state =
          begun-state _ _ c.args.test.now _ _ (ap (core_states 0) ps ∙ c.restart_cores.ensures.states)
          (c.restart.ensures.words ∙ c.initial_words.ensures.value) (ap holder_of c.restart.ensures.exact);
      commits = search rules;
      tallied = tallied-first c.args.test.now _ _ c.requires.test (ap (core_states 0) ps ∙ c.restart_cores.ensures.states)
          (c.fill.ensures.items (λ y e. e) ∙ ap (λ n. replicate n no_counts) counted) (ap awaited_of c.restart.ensures.exact);
    }

pub returns-clause-statistics : goal.returns-clause-statistics
returns-clause-statistics g c =
    let m = c.args.hardware.now in
    let counted : vec_len m.counts ≡ length c.args.test.now.programs = omega (arith, m.counts.ok.0, c.requires.counts) in
    begun-statistics m.bus c.restart.new.self c.initial_words.result.now _ c.args.test.now (vec_len m.counts) c.restart.ensures.exact c.requires.fits.on_bus
    c.initial_words.ensures.value (c.fill.ensures.items (λ y e. e)) counted
