use Rattle.tso_report.specs.inner.Arrays.{IsBegun}
use Rattle.trace_report.proofs.Vocabulary.{◌≡◌, ◌+◌, ◌-◌, ◌<◌, suc, ap, subst, arith, sets_json}
use Rattle.trace_report.proofs.copies_as_json.sets_value.Goals as goal

pub loop-set-preserved : goal.loop-set-preserved
loop-set-preserved g c =
    let m = c.args.moment.now.machine.now in
    let sets = c.args.moment.now.config.shape.sets in
    let set = c.loop-set.set in
    let within : set < sets = omega arith in
    let left : sets - set ≡ suc (sets - (set + 1)) = omega arith in
    c.with-values.ensures _ _ _
    (subst (λ ds. IsBegun c.loop-set.values ds (sets_json m c.args.core.0 0 sets)) (ap (sets_json m c.args.core.0 set) left) c.loop-set.invariant)
    c.set_value.ensures

pub returns : goal.returns
returns g c =
    let m = c.args.moment.now.machine.now in
    let sets = c.args.moment.now.config.shape.sets in
    let none : sets - c.loop-set.set ≡ 0 = omega arith in
    c.value.ensures _ (subst (λ ds. IsBegun c.loop-set.values ds (sets_json m c.args.core.0 0 sets))
    (ap (sets_json m c.args.core.0 c.loop-set.set) none) c.loop-set.invariant)
