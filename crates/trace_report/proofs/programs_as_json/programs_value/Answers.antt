use Rattle.tso_report.specs.inner.Arrays.{IsBegun}
use Rattle.trace_report.proofs.Vocabulary.{◌+◌, ◌≤◌, ◌<◌, ◌∙◌, [], ◌∷◌, length, map, drop, ap, sym, subst, arith, drop_more, drop_all, program_value}
use Rattle.trace_report.proofs.programs_as_json.programs_value.Goals as goal

pub loop-core-preserved : goal.loop-core-preserved
loop-core-preserved c =
    let xs = c.args.test.now.programs in
    let i = c.loop-core.core in
    let value = program_value c.args.test.now in
    let within : i < length xs = omega arith in
    let still = ap (map value) (drop_more xs i [] within) ∙ ap (λ p. value p ∷ map value (drop (i + 1) xs)) (sym c.program.ensures.value) in
    c.with-programs.ensures _ _ _ (subst (λ ds. IsBegun c.loop-core.programs ds (map value xs)) still c.loop-core.invariant) c.program_value.ensures

pub returns : goal.returns
returns c =
    let xs = c.args.test.now.programs in
    let i = c.loop-core.core in
    let value = program_value c.args.test.now in
    let past : length xs ≤ i = omega arith in
    c.value.ensures _ (subst (λ ds. IsBegun c.loop-core.programs ds (map value xs)) (ap (map value) (drop_all i xs past)) c.loop-core.invariant)
