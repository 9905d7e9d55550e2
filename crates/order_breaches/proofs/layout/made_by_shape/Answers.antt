use Rattle.order_breaches.proofs.Vocabulary.{◌≤◌, length, ap, sym, ◌∙◌, refl, subst, made_reading, reads_of_all, IsIndex}
use Rattle.order_breaches.proofs.Matching.{alike-of, names-first-stray, names-first-missing, all-matched, all-read, made-index}
use Rattle.order_breaches.proofs.layout.made_by_shape.Goals as goal

pub returns-in-Some-clause-breach : goal.returns-in-Some-clause-breach
returns-in-Some-clause-breach g c _ =
    let t = c.args.test.now in
    let order = c.args.order.now.order in
    names-first-stray t order c.args.shape.now (alike-of t order c.args.shape.now c.requires.shape) c.in-Some.stray c.in-Some.ensures.found

pub returns-in-Some-first_missing-clause-breach : goal.returns-in-Some-first_missing-clause-breach
returns-in-Some-first_missing-clause-breach g c _ =
    let first = c.in-Some-first_missing.ensures.found in
    names-first-missing c.args.test.now c.args.order.now.order c.args.shape.now c.requires.shape c.args.slots.now c.requires.index
    c.first_stray.new.came (c.in_default.ensures.none refl) (c.in_default.ensures.came refl) c.in-Some-first_missing.e first.0 first.1

pub made_entries-requires : goal.made_entries-requires
made_entries-requires g c =
    let all = all-read c.args.test.now c.args.order.now.order c.args.shape.now c.requires.shape c.args.slots.now c.requires.index c.first_stray.new.came
    (c.in_default.ensures.none refl) (c.in_default.ensures.came refl) (c.in_default-first_missing.ensures.none refl) in
    subst (λ r. reads_of_all c.args.test.now.programs ≤ length r) (sym (c.deref.ensures.value ∙ c.in_ok-reads.ensures)) all.enough

pub returns-clause-made : goal.returns-clause-made
returns-clause-made g c =
    let t = c.args.test.now in
    let all = all-read t c.args.order.now.order c.args.shape.now c.requires.shape c.args.slots.now c.requires.index c.first_stray.new.came
    (c.in_default.ensures.none refl) (c.in_default.ensures.came refl) (c.in_default-first_missing.ensures.none refl) in
    c.in_ok-made_entries.ensures ∙ ap (λ r. made_reading 0 t.programs t.registers r) (c.deref.ensures.value ∙ c.in_ok-reads.ensures) ∙ all.makes

pub returns-clause-index : goal.returns-clause-index
returns-clause-index g c =
    let index = made-index c.args.test.now c.args.order.now.order c.args.shape.now c.requires.shape c.args.slots.now c.requires.index c.first_stray.new.came
    (c.in_default.ensures.none refl) (c.in_default.ensures.came refl) in
    let made = returns-clause-made g c in
    subst (λ m. IsIndex m c.args.slots.now) (sym made) index

pub returns-clause-matched : goal.returns-clause-matched
returns-clause-matched g c =
    all-matched c.args.test.now c.args.order.now.order c.args.shape.now c.requires.shape c.args.slots.now c.requires.index c.first_stray.new.came
    (c.in_default.ensures.none refl) (c.in_default.ensures.came refl) (c.in_default-first_missing.ensures.none refl)
