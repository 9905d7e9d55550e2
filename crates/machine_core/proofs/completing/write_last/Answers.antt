use Rattle.machine_core.proofs.Vocabulary.{◌∙◌, refl, sym, ap, subst, slice_get, slice_set, length, length-set, Free, acts, Step, Committed}
use Rattle.machine_core.proofs.Vocabulary.{Unused, words_of, holder_of, Processor, core_state, AreKnown, state_of_cores, held_as, state_in}
use Rattle.machine_core.proofs.Vocabulary.{pending_in, HasUsed, writes_last_in}
use Rattle.machine_core.proofs.ChoiceEffects.{Performs-by, within-cores, IsCore-at, PartsFitTest-next}
use Rattle.machine_core.proofs.StepCompletions.{next-some, place-within, IsNext, is-next, access-next}
use Rattle.machine_core.proofs.LastWrites.{WritesAs, has-read, locks-some, is-lock, other-locks, last_part, writes-last, use-last, rests-last}
use Rattle.machine_core.proofs.Splitting.{held-with, held-freed}
use Rattle.machine_core.proofs.completing.write_last.Goals as goal

pub unwrap-instr-requires : goal.unwrap-instr-requires
unwrap-instr-requires g c =
    let p = c.index_mut-processor.result.now in
    let e = c.args.read in
    let read = has-read c.args.test.now c.args.hardware.now e c.requires.consistent.holder c.requires.between in
    next-some c.args.test.now c.args.hardware.now e.core p c.instruction_at.result
    (within-cores c.args.test.now c.args.hardware.now e.core.0 c.requires.consistent.fits c.requires.core)
    c.index_mut-processor.ensures.value
    (ap (λ xs. slice_get xs p.place) (sym c.program.ensures.value) ∙ sym c.instruction_at.ensures) (locks-some _ e.loc read.access)

-- only a locked instruction has a store part still to do
pub unreachable-requires : goal.unreachable-requires
unreachable-requires g c =
    let p = c.index_mut-processor.result.now in
    let e = c.args.read in
    let read = has-read c.args.test.now c.args.hardware.now e c.requires.consistent.holder c.requires.between in
    let next : IsNext c.args.test.now c.args.hardware.now e.core p c.action.result =
    is-next c.args.test.now c.args.hardware.now e.core p c.program.result.now c.instruction_at.result
    c.unwrap-instr.result c.action.result c.action.result c.requires.consistent.fits c.requires.core
    c.index_mut-processor.ensures.value
    c.program.ensures.value c.instruction_at.ensures c.unwrap-instr.ensures c.action.ensures refl in
    other-locks _ (is-lock p.stores.depth c.action.result (pending_in e.core.0 p) e.loc
    (sym (access-next c.args.test.now c.args.hardware.now e.core p c.action.result next) ∙ read.access))
    c.in_default.not-Lock

pub advance_taking-requires : goal.advance_taking-requires
advance_taking-requires g c =
    place-within c.program.result.now c.instruction_at.result c.unwrap-instr.result
    c.index_mut-processor.result.now.place c.instruction_at.ensures c.unwrap-instr.ensures c.program.ensures.size

pub complete_write-requires : goal.complete_write-requires
complete_write-requires g c =
    record {
      holds =
          c.requires.consistent.held
          ∙ ap (held_as c.args.test.now c.args.hardware.now.config.depth (state_in c.args.hardware.now).flat) c.requires.between;
    }

pub returns-in_err-note-clause-commits_at_once : goal.returns-in_err-note-clause-commits_at_once
returns-in_err-note-clause-commits_at_once g c =
    let p = c.index_mut-processor.result.now in
    let e = c.args.read in
    let read = has-read c.args.test.now c.args.hardware.now e c.requires.consistent.holder c.requires.between in
    let next : IsNext c.args.test.now c.args.hardware.now e.core p c.action.result =
    is-next c.args.test.now c.args.hardware.now e.core p c.program.result.now c.instruction_at.result
    c.unwrap-instr.result c.action.result c.action.result c.requires.consistent.fits c.requires.core
    c.index_mut-processor.ensures.value
    c.program.ensures.value c.instruction_at.ensures c.unwrap-instr.ensures c.action.ensures refl in
    ap (λ f. f.effect.outcome)
    (writes-last c.args.test.now c.args.hardware.now e p c.action.result c.in-Lock.reg c.apply-value.result next
    read
    (subst (λ a. WritesAs a p.registers e.value c.in-Lock.reg c.apply-value.result) (sym c.in-Lock.is) (
      refl,
      c.apply-value.ensures,
    )))

pub returns : goal.returns
returns g c =
    let p = c.index_mut-processor.result.now in
    let m = c.args.hardware.now in
    let e = c.args.read in
    let read = has-read c.args.test.now m e c.requires.consistent.holder c.requires.between in
    let next : IsNext c.args.test.now m e.core p c.action.result =
    is-next c.args.test.now m e.core p c.program.result.now c.instruction_at.result c.unwrap-instr.result
    c.action.result c.action.result c.requires.consistent.fits c.requires.core c.index_mut-processor.ensures.value
    c.program.ensures.value c.instruction_at.ensures c.unwrap-instr.ensures c.action.ensures refl in
    let writes =
    writes-last c.args.test.now m e p c.action.result c.in-Lock.reg c.apply-value.result next read
    (subst (λ a. WritesAs a p.registers e.value c.in-Lock.reg c.apply-value.result) (sym c.in-Lock.is) (
      refl,
      c.apply-value.ensures,
    )) in
    let core = IsCore-at c.args.test.now m e.core.0 p c.requires.consistent.fits c.requires.core c.index_mut-processor.ensures.value in
    record {
      makes = record {
        ok = Performs-by m _ (Step e.core) Committed c.advance_taking.new.processor (writes_last_in c.args.test.now m e)
            (acts (last_part e.core.0 e.place (core_state e.core.0 p) e.loc c.in-Lock.reg e.value c.apply-value.result) Free) writes refl
            (ap (core_state e.core.0) c.advance_taking.ensures) c.complete_write.ensures.words
            (rw c.entry.ensures at c.in_ok-note.ensures.ok) (ap (held-with m.next) c.complete_write.ensures.free) refl;
        caches =
            subst (λ u. HasUsed u c.complete_write.new.self Unused)
            (sym (use-last c.args.test.now m e (writes_last_in c.args.test.now m e) p c.in-Lock.reg c.apply-value.result c.requires.between writes))
            (rests-last m.bus c.complete_write.new.self c.complete_write.ensures.contents
            c.complete_write.ensures.machine c.complete_write.ensures.free c.complete_write.ensures.nothing_awaited);
      };
      commits_at_once = ap (λ f. f.effect.outcome) writes;
      err = tt;
      keeps = record { config = refl; counts = refl };
      of_test = record {
        fits =
            PartsFitTest-next c.args.test.now m _ e.core.0 c.advance_taking.new.processor c.requires.consistent.fits
            refl refl c.complete_write.ensures.machine.cores
            (ap length c.complete_write.ensures.words ∙ length-set (words_of m.bus) e.loc.0 c.apply-value.result)
            (ap (λ (q : Processor). q.stores.depth) c.advance_taking.ensures ∙ core.depth_is)
            (subst (λ (q : Processor). AreKnown (length (words_of m.bus)) q.stores) (sym c.advance_taking.ensures) core.known);
        held =
            held-freed c.args.test.now m.config.depth
            (state_of_cores (slice_set m.processors.items e.core.0 c.advance_taking.new.processor) (words_of c.complete_write.new.self))
            m.next (holder_of c.complete_write.new.self) c.complete_write.ensures.free;
      };
    }
