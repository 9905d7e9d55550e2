use Rattle.trace_report.proofs.Vocabulary.{◌≡◌, ◌∙◌, ◌+◌, ◌<◌, ◌-◌, [], ◌∷◌, suc, length, ap, sym, subst, refl, arith, unwrap_or, view}
use Rattle.trace_report.proofs.Vocabulary.{Data, IfOk, Litmus, registers_value, core_json, cores_json}
use Rattle.trace_report.proofs.Looking.{place-of}
use Rattle.trace_report.proofs.MachinesLooked.{registers-of}
use Rattle.tso_report.specs.inner.Arrays.{IsBegun}
use Rattle.trace_report.proofs.Listed.{core-made}
use Rattle.trace_report.proofs.cores_as_json.cores_value.Goals as goal

pub loop-core-preserved : goal.loop-core-preserved
loop-core-preserved g c =
    let cores = length c.args.moment.now.test.now.programs in
    let within : c.loop-core.core < cores = omega arith in
    let m = c.args.moment.now.machine.now in
    let core = c.loop-core.core in
    let made : IfOk c.value-value.result (λ value. view value ≡ core_json m core) =
    subst (λ (d : Data). IfOk c.value-value.result (λ value. view value ≡ d))
    (core-made c.args.moment.now.test.now c.args.moment.now.config m core c.unwrap_or-place.result _ _
    (registers_value c.unwrap_or-registers.result) c.requires refl refl
    (c.unwrap_or-place.ensures ∙ (ap (λ o. unwrap_or o 0) c.place.ensures ∙ place-of m core))
    (ap registers_value c.unwrap_or-registers.ensures
    ∙ (ap (λ o. registers_value (unwrap_or o (0 ∷ 0 ∷ 0 ∷ 0 ∷ 0 ∷ 0 ∷ []))) c.registers.ensures
    ∙ registers-of m core)))
    (c.value-value.ensures _ (c.member-in-loop-core-3.ensures _ _
    (c.member-in-loop-core-2.ensures _ _
    (c.member-in-loop-core.ensures _ _ (c.member.ensures _ _ c.new.ensures c.buffer_value.ensures) c.sets_value.ensures)
    c.from.ensures)
    c.registers_value.ensures)) in
    let left : cores - core ≡ suc (cores - (core + 1)) = omega arith in
    c.with-values.ensures _ _ _ (subst (λ ds. IsBegun c.loop-core.values ds (cores_json m 0 cores)) (ap (cores_json m core) left) c.loop-core.invariant) made

pub returns : goal.returns
returns g c =
    let m = c.args.moment.now.machine.now in
    let cores = length c.args.moment.now.test.now.programs in
    let none : cores - c.loop-core.core ≡ 0 = omega arith in
    let shown = ap (λ (t : Litmus). cores_json m 0 (length t.programs)) (sym c.requires.test) in
    c.value.ensures _ (subst (IsBegun c.loop-core.values []) shown
    (subst (λ ds. IsBegun c.loop-core.values ds (cores_json m 0 cores)) (ap (cores_json m c.loop-core.core) none) c.loop-core.invariant))
