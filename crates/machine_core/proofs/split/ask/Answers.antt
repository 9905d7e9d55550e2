use Rattle.machine_core.proofs.Vocabulary.{◌∙◌, refl, sym, ap, subst, caches_of, chosen, core_of, words_of, holder_of}
use Rattle.machine_core.proofs.Vocabulary.{state_of_cores, Complete, asks, state_in, access_of, attempt_in, held_as, IsOther}
use Rattle.machine_core.proofs.NextChoices.{other-begins}
use Rattle.machine_core.proofs.Splitting.{some-needed, ask-caches, ask-how, ask-holder, ask-misses, asks-hold, held-with}
use Rattle.machine_core.proofs.Splitting.{begins-asks, free-with, held-ask, fits-ask, performs-ask, use-ask}
use Rattle.machine_core.proofs.split.ask.Goals as goal

pub ask-request-requires-clause-loc : goal.ask-request-requires-clause-loc
ask-request-requires-clause-loc g c = c.requires.course.2

pub ask-request-requires-clause-free : goal.ask-request-requires-clause-free
ask-request-requires-clause-free g c = free-with c.args.hardware.now.next (holder_of c.args.hardware.now.bus) c.requires.course.0

pub ask-request-requires-clause-misses : goal.ask-request-requires-clause-misses
ask-request-requires-clause-misses g c =
    let m = c.args.hardware.now in
    ask-misses (caches_of m.bus) c.core_of-core.result.0 (chosen c.args.choice) c.args.loc c.args.write
    (access_of c.args.test.now m.config.depth (state_in m).flat c.args.choice) (sym c.requires.course.1) c.core_of-core.ensures.chosen

pub returns : goal.returns
returns g c =
    let t = c.args.test.now in
    let m = c.args.hardware.now in
    let choice = c.args.choice in
    let core = c.core_of-core.result in
    let new = c.ask-request.new.self in
    let asked-for =
    other-begins t m choice (subst (λ h. IsOther h choice) (sym c.requires.course.0) tt)
    ∙ begins-asks t m choice (some-needed c.args.loc c.args.write t m choice c.requires.course.1)
    ∙ ap (asks (core_of (state_in m).flat (chosen choice)) choice) c.requires.course.0 in
    let access = access_of t m.config.depth (state_in m).flat choice in
    let hits = (attempt_in t m choice).hits in
    let needed = sym c.requires.course.1 in
    let done = c.ask-request.ensures.done in
    let holder = ask-holder m.bus new core c.args.loc c.args.write access hits needed c.ask-request.result done in
    let caches = ask-caches m.bus new core c.args.loc c.args.write access hits needed c.ask-request.result done c.ask-request.ensures.machine in
    let how = ask-how m.bus new core c.args.loc c.args.write access hits needed c.ask-request.result done in
    let holds =
    ap (held-with (Complete choice)) holder
    ∙ asks-hold core access hits choice (some-needed c.args.loc c.args.write t m choice c.requires.course.1) in
    record {
      makes = record {
        ok = performs-ask t m _ choice _ asked-for refl done.words holds refl;
        caches = use-ask t m new choice core.0 _ _ asked-for c.requires.course.0 c.core_of-core.ensures.chosen how caches;
      };
      succeeds = λ _. refl;
      err = tt;
      keeps = record { config = refl; counts = refl };
      of_test = record {
        fits = fits-ask t m _ c.requires.consistent.fits refl refl done.words c.ask-request.ensures.machine.cores;
        held =
            held-ask t m.config.depth (state_in m).flat _ choice core access _
            c.core_of-core.ensures.core refl (ap (state_of_cores m.processors.items) done.words) holder
            ∙ sym (ap (held_as t m.config.depth (state_of_cores m.processors.items (words_of new))) holds);
      };
    }
