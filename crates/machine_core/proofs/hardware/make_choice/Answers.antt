use Rattle.machine_core.proofs.Vocabulary.{◌≡◌, arith, refl, sym, ◌∙◌, ap, length}
use Rattle.machine_core.proofs.TallyLemmas.{flusher-next, few-next, uncounted-next, tallied-next}
use Rattle.machine_core.proofs.hardware.make_choice.Goals as goal

pub tally-requires-clause-flusher : goal.tally-requires-clause-flusher
tally-requires-clause-flusher g c =
    flusher-next c.args.test.now c.args.hardware.now c.args.choice c.act_on_bus.new.hardware.bus c.in_ok-outcome.cache_use c.deref_mut.result.now
    c.requires.consistent.fits c.requires.tallied c.in_ok-outcome.ensures.makes.caches (c.deref_mut.ensures.value ∙ c.act_on_bus.ensures.keeps.counts)

pub tally-requires-clause-few : goal.tally-requires-clause-few
tally-requires-clause-few g c =
    few-next c.args.test.now c.args.hardware.now c.deref_mut.result.now c.requires.consistent.fits c.requires.tallied
    (c.deref_mut.ensures.value ∙ c.act_on_bus.ensures.keeps.counts)

pub tally-requires-clause-committed : goal.tally-requires-clause-committed
tally-requires-clause-committed g c = λ other.
    uncounted-next c.args.test.now c.args.hardware.now c.args.choice c.act_on_bus.new.hardware.bus
    c.in_ok-outcome.cache_use c.requires.consistent.fits c.requires.core c.requires.consistent.holder
    c.requires.tallied c.in_ok-outcome.ensures.makes.caches (λ is. other (c.in_ok-outcome.ensures.makes.ok.outcome ∙ is))

pub returns-clause-tallied : goal.returns-clause-tallied
returns-clause-tallied g c =
    tallied-next c.args.test.now c.args.hardware.now c.act_on_bus.new.hardware c.args.choice c.in_ok-outcome.outcome c.in_ok-outcome.cache_use
    c.core_of.result.0 c.act_on_bus.new.hardware.counts.len c.deref_mut.result.now c.tally.new.counts _
    c.requires.consistent.fits c.requires.core c.requires.consistent.holder c.requires.tallied
    c.in_ok-outcome.ensures.makes.ok
    c.in_ok-outcome.ensures.makes.caches c.core_of.ensures.chosen (c.deref_mut.ensures.value ∙ c.act_on_bus.ensures.keeps.counts) c.tally.ensures
    (c.act_on_bus.new.hardware.counts.ok.0 ∙ ap length (sym c.deref_mut.ensures.value))

pub tally-requires-clause-core : goal.tally-requires-clause-core
tally-requires-clause-core g c =
    let cores : length c.args.hardware.now.counts.items ≡ length c.args.test.now.programs = c.requires.tallied.cores in
    let same : length c.deref_mut.result.now ≡ length c.args.hardware.now.counts.items =
    ap length (c.deref_mut.ensures.value ∙ c.act_on_bus.ensures.keeps.counts) in
    omega (arith, c.core_of.ensures.chosen, c.requires.core)

pub returns-in_err-outcome-clause-tallied : goal.returns-in_err-outcome-clause-tallied
returns-in_err-outcome-clause-tallied g c =
    rw (c.in_err-outcome.ensures.err.state, c.in_err-outcome.ensures.err.bus, c.act_on_bus.ensures.keeps.counts) c.requires.tallied

pub act_on_bus-requires : goal.act_on_bus-requires
act_on_bus-requires g c = record { core = c.requires.core; consistent = c.requires.consistent }

pub returns-clause-ok : goal.returns-clause-ok
returns-clause-ok g c =
    let made = c.in_ok-outcome.ensures.makes.ok in
    record { outcome = made.outcome; flat = made.flat; holder = made.holder; commits = made.commits }

pub returns-clause-how : goal.returns-clause-how
returns-clause-how g c = c.in_ok-outcome.ensures.makes.caches.how_is

pub returns-clause-answer : goal.returns-clause-answer
returns-clause-answer g c = c.act_on_bus.ensures.answer

pub returns-clause-succeeds : goal.returns-clause-succeeds
returns-clause-succeeds g c = λ _. refl

pub returns-clause-config : goal.returns-clause-config
returns-clause-config g c = c.act_on_bus.ensures.keeps.config

pub returns-clause-of_test : goal.returns-clause-of_test
returns-clause-of_test g c =
    let kept = c.act_on_bus.ensures.of_test in
    record { fits = record { cores = kept.fits.cores; on_bus = kept.fits.on_bus; words = kept.fits.words; each = kept.fits.each }; held = kept.held }

pub returns-in_err-outcome-clause-answer : goal.returns-in_err-outcome-clause-answer
returns-in_err-outcome-clause-answer g c = c.act_on_bus.ensures.answer

pub returns-in_err-outcome-clause-of_test : goal.returns-in_err-outcome-clause-of_test
returns-in_err-outcome-clause-of_test g c = c.act_on_bus.ensures.of_test
