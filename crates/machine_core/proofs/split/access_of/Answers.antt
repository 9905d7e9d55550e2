use Rattle.machine_core.proofs.Vocabulary.{◌≡◌, ◌<◌, ◌∙◌, sym, ap, subst, slice_get, length, None, Some, KnownLocation, chosen, program_of, words_of}
use Rattle.machine_core.proofs.ChoiceEffects.{access_of-step, access_of-done, access_of-drain, IsCore-at, within-cores}
use Rattle.multiprocessor.proofs.Finishing.{All-got}
use Rattle.multiprocessor.proofs.Acting.{writes-nothing, writes-oldest}
use Rattle.machine_core.proofs.split.access_of.Goals as goal

pub returns-in-None-clause-value : goal.returns-in-None-clause-value
returns-in-None-clause-value g c =
    let p = c.index-processor.result.now in
    let core = c.in-Step.core in
    let here : core.0 < length c.args.test.now.programs = subst (λ choice. chosen choice < length c.args.test.now.programs) c.in-Step.is c.requires.core in
    let within = within-cores c.args.test.now c.args.hardware.now core.0 c.requires.fits here in
    let got : slice_get (program_of c.args.test.now core.0) p.place ≡ None =
    ap (λ xs. slice_get xs p.place) (sym c.program.ensures.value) ∙ sym c.in-None.ensures in
    rw c.in-Step.is (sym (access_of-done c.args.test.now c.args.hardware.now core p within c.index-processor.ensures got))

pub returns-in-Some-clause-value : goal.returns-in-Some-clause-value
returns-in-Some-clause-value g c =
    let p = c.index-processor.result.now in
    let core = c.in-Step.core in
    let here : core.0 < length c.args.test.now.programs = subst (λ choice. chosen choice < length c.args.test.now.programs) c.in-Step.is c.requires.core in
    let within = within-cores c.args.test.now c.args.hardware.now core.0 c.requires.fits here in
    let got : slice_get (program_of c.args.test.now core.0) p.place ≡ Some c.in-Some.instr =
    ap (λ xs. slice_get xs p.place) (sym c.program.ensures.value) ∙ sym c.in-Some.ensures in
    let kept = IsCore-at c.args.test.now c.args.hardware.now core.0 p c.requires.fits here c.index-processor.ensures in
    rw c.in-Step.is
    (c.step_access.ensures.value core.0
    ∙ sym (access_of-step c.args.test.now c.args.hardware.now core p c.in-Some.instr within c.index-processor.ensures kept.depth_is got))

pub returns-in-Some-clause-known : goal.returns-in-Some-clause-known
returns-in-Some-clause-known g c =
    let got : slice_get c.program.result.now c.index-processor.result.now.place ≡ Some c.in-Some.instr = sym c.in-Some.ensures in
    let known =
    All-got (KnownLocation (length c.args.test.now.locations)) c.program.result.now
    c.index-processor.result.now.place c.in-Some.instr c.program.ensures.locations got in
    c.step_access.ensures.known (length (words_of c.args.hardware.now.bus)) (subst (λ n. KnownLocation n c.in-Some.instr) (sym c.requires.fits.words) known)

pub returns-in-None-oldest-clause-value : goal.returns-in-None-oldest-clause-value
returns-in-None-oldest-clause-value g c =
    let p = c.index-processor-in-Drain.result.now in
    let core = c.in-Drain.core in
    let here : core.0 < length c.args.test.now.programs = subst (λ choice. chosen choice < length c.args.test.now.programs) c.in-Drain.is c.requires.core in
    let within = within-cores c.args.test.now c.args.hardware.now core.0 c.requires.fits here in
    let none = writes-nothing core.0 p.stores.items (sym c.in-None-oldest.ensures) in
    rw c.in-Drain.is (sym none ∙ sym (access_of-drain c.args.test.now c.args.hardware.now core p within c.index-processor-in-Drain.ensures))

pub returns-in-Some-oldest-clause-value : goal.returns-in-Some-oldest-clause-value
returns-in-Some-oldest-clause-value g c =
    let p = c.index-processor-in-Drain.result.now in
    let core = c.in-Drain.core in
    let here : core.0 < length c.args.test.now.programs = subst (λ choice. chosen choice < length c.args.test.now.programs) c.in-Drain.is c.requires.core in
    let within = within-cores c.args.test.now c.args.hardware.now core.0 c.requires.fits here in
    let oldest = writes-oldest core.0 p.stores.items c.in-Some-oldest.store c.in-Some-oldest.ensures in
    rw c.in-Drain.is (oldest ∙ sym (access_of-drain c.args.test.now c.args.hardware.now core p within c.index-processor-in-Drain.ensures))

pub returns-in-Some-oldest-clause-known : goal.returns-in-Some-oldest-clause-known
returns-in-Some-oldest-clause-known g c =
    let p = c.index-processor-in-Drain.result.now in
    let here : c.in-Drain.core.0 < length c.args.test.now.programs =
    subst (λ choice. chosen choice < length c.args.test.now.programs) c.in-Drain.is c.requires.core in
    let kept = IsCore-at c.args.test.now c.args.hardware.now c.in-Drain.core.0 p c.requires.fits here c.index-processor-in-Drain.ensures in
    All-got (λ s. s.loc.0 < length (words_of c.args.hardware.now.bus)) p.stores.items 0 c.in-Some-oldest.store kept.known (sym c.in-Some-oldest.ensures)
