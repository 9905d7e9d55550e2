use Rattle.machine_core.proofs.Vocabulary.{holder_of, refl, sym, ap, ◌∙◌, subst, length, All, chosen, completes, Locks, Write, IsCore}
use Rattle.machine_core.proofs.Vocabulary.{held_as, held_for, core_in, state_in, memory_access_in, IfOk, HasMade}
use Rattle.machine_core.proofs.ChoiceEffects.{within-cores}
use Rattle.machine_core.proofs.Completions.{performs-first, uses-first, completes-whole, commits-whole, held-whole}
use Rattle.multiprocessor.specs.inner.Cores.{first_read}
use Rattle.machine_core.proofs.Splitting.{held-with}
use Rattle.machine_core.proofs.completing.complete.Goals as goal

pub returns-in_ok-next-in-Lock-clause-makes : goal.returns-in_ok-next-in-Lock-clause-makes
returns-in_ok-next-in-Lock-clause-makes g c =
    let t = c.args.test.now in
    let m = c.args.hardware.now in
    let p = c.index.result.now in
    let read = c.in_ok-next-in-Lock in
    let chooses = c.core_of-core.ensures.chosen in
    let e = first_read c.core_of-core.result.0 p.place c.in-Lock.loc m.bus in
    let locks = sym c.access_of.ensures.value ∙ ap memory_access_in c.in-Lock.is in
    let within = within-cores t m (chosen c.args.choice) c.requires.consistent.fits c.requires.core in
    let at = rw chooses at c.index.ensures in
    record {
      ok =
          performs-first t m _ c.args.choice c.in-Lock.loc p e locks within at
          (ap (λ core. first_read core p.place c.in-Lock.loc m.bus) chooses) refl c.read_first.ensures.words
          read.ensures.commits (ap (λ next. held-with next (holder_of c.read_first.new.bus)) read.ensures.next ∙ ap (held-with (Write e)) read.ensures.holds);
      caches = uses-first t m c.read_first.new.bus c.args.choice c.in-Lock.loc p read.report c.requires.asked locks within at (rw chooses at read.ensures.used);
    }

pub returns-in_ok-next-in-Lock-clause-of_test : goal.returns-in_ok-next-in-Lock-clause-of_test
returns-in_ok-next-in-Lock-clause-of_test g c =
    let m = c.args.hardware.now in
    let fits = c.requires.consistent.fits in
    let made = c.read_first.ensures in
    let read = c.in_ok-next-in-Lock.ensures in
    record {
      fits = record {
        cores = fits.cores;
        on_bus = made.machine.cores ∙ fits.on_bus;
        words = ap length made.words ∙ fits.words;
        each = subst (λ ws. All (IsCore m.config.depth (length ws)) m.processors.items) (sym made.words) fits.each;
      };
      held = rw (read.holds, read.next) refl;
    }

pub returns-in_ok-next-in-Lock-clause-commits_at_once : goal.returns-in_ok-next-in-Lock-clause-commits_at_once
returns-in_ok-next-in-Lock-clause-commits_at_once g c = sym (returns-in_ok-next-in-Lock-clause-makes g c).ok.outcome

pub returns-in_err-next-in-Lock-clause-commits_at_once : goal.returns-in_err-next-in-Lock-clause-commits_at_once
returns-in_err-next-in-Lock-clause-commits_at_once g c =
    let m = c.args.hardware.now in
    ap (λ access. (completes c.args.test.now m.config.depth (state_in m).flat c.args.choice access).effect.outcome)
    (sym c.access_of.ensures.value ∙ ap memory_access_in c.in-Lock.is)

pub access_of-requires : goal.access_of-requires
access_of-requires g c = record { core = c.requires.core; fits = c.requires.consistent.fits }

pub read_first-requires : goal.read_first-requires
read_first-requires g c =
    let m = c.args.hardware.now in
    record {
      holds = c.requires.consistent.held ∙ ap (held_as c.args.test.now m.config.depth (state_in m).flat) c.requires.asked
          ∙ ap (held_for (core_in c.args.choice)) (sym c.access_of.ensures.value ∙ ap memory_access_in c.in-Lock.is)
          ∙ ap (λ core. held_for core (Locks c.in-Lock.loc)) (sym c.core_of-core.ensures.core);
    }

pub act-requires-clause-core : goal.act-requires-clause-core
act-requires-clause-core g c = c.requires.core

pub act-requires-clause-fits : goal.act-requires-clause-fits
act-requires-clause-fits g c = c.requires.consistent.fits

pub returns-in_err-next-in-Lock-clause-of_test : goal.returns-in_err-next-in-Lock-clause-of_test
returns-in_err-next-in-Lock-clause-of_test g c =
    let fits = c.requires.consistent.fits in
    let same = c.in_err-next-in-Lock.ensures.err_bus in
    record {
      fits = record {
        cores = fits.cores;
        on_bus = rw same fits.on_bus;
        words = rw same fits.words;
        each = rw same fits.each;
      };
      held = rw same c.requires.consistent.held;
    }

pub returns-in_ok-next-in-Lock-clause-keeps : goal.returns-in_ok-next-in-Lock-clause-keeps
returns-in_ok-next-in-Lock-clause-keeps g c = record { config = refl; counts = refl }

pub returns-in_default-clause-makes : goal.returns-in_default-clause-makes
returns-in_default-clause-makes g c =
    subst (λ f. IfOk c.act.result (HasMade c.args.test.now c.args.hardware.now c.act.new.hardware c.args.choice f))
    (sym (completes-whole c.args.test.now c.args.hardware.now c.args.choice c.access_of.result c.access_of.ensures.value c.in_default.not-Lock))
    c.act.ensures.makes

pub returns-in_default-clause-commits_at_once : goal.returns-in_default-clause-commits_at_once
returns-in_default-clause-commits_at_once g c =
    commits-whole c.args.test.now c.args.hardware.now c.args.choice c.access_of.result c.access_of.ensures.value
    c.in_default.not-Lock c.requires.asked c.requires.consistent.holder

pub returns-in_default-clause-of_test : goal.returns-in_default-clause-of_test
returns-in_default-clause-of_test g c = record {
  fits = c.act.ensures.fits;
  held =
      held-whole c.act.result c.args.test.now c.args.hardware.now c.act.new.hardware c.requires.consistent.held
      c.act.ensures.keeps.config c.act.ensures.holder c.act.ensures.err;
}
