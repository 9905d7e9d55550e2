use Rattle.refutations.proofs.Vocabulary.{◌<◌, ◌++◌, ap, ◌∙◌, subst, ◌≤◌, [], map, refl, sym, bare, events_from}
use Rattle.refutations.proofs.Growing.{events-more}
use Rattle.refutations.proofs.Walking.{appended, all-appended}
use Rattle.refutations.proofs.events.make_events.Goals as goal

pub loop-number-preserved : goal.loop-number-preserved
loop-number-preserved c =
    let t = c.args.test.now in
    events-more c.loop-number.number t.programs t.registers c.deref.result.now _ c.loop-number.events.items c.loop-e.events.items
    c.in_ok-thread.thread.entries.items (subst (λ n. c.loop-number.number < n) c.cores-number-end.ensures.value c.loop-number-test.true)
    c.in_ok-thread.ensures.entries
    (all-appended (map bare) c.deref-e-items.result.now c.loop-e.e-index c.loop-e.events.items _ c.loop-e-test.false refl c.loop-e.invariant
    ∙ ap (λ es. c.loop-number.events.items ++ map bare es) c.deref-e-items.ensures.value)
    c.loop-number.invariant

pub loop-e-preserved : goal.loop-e-preserved
loop-e-preserved c =
    appended (map bare) c.deref-e-items.result.now c.loop-e.e-index _ _ c.loop-e.events.items c.push.new.self.items _ c.loop-e-test.true refl
    c.in_ok-push.ensures.items c.loop-e.invariant

pub loop-number-init : goal.loop-number-init
loop-number-init c = ap (λ es. es ++ map bare (events_from 0 c.args.test.now.programs c.args.test.now.registers [])) (sym c.new-events.ensures.items)

pub returns : goal.returns
returns c =
    all-appended
    (λ ps. map bare (events_from c.loop-number.number ps c.args.test.now.registers [])) c.args.test.now.programs
    c.loop-number.number c.loop-number.events.items _
    (subst (λ n. n ≤ c.loop-number.number) c.cores-number-end.ensures.value c.loop-number-test.false) refl c.loop-number.invariant
