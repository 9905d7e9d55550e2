use Rattle.tso_report.proofs.Vocabulary.{◌≡◌, ◌∙◌, ◌+◌, ◌++◌, ◌∷◌, [], ap, drop, drop_more, map, get_or, shown_value}
use Rattle.tso_report.proofs.Listed.{listed}
use Rattle.tso_report.proofs.Looking.{register-shown, location-shown}
use Rattle.tso_report.proofs.named.values_at.Goals as goal
use Rattle.tso_report.proofs.named.values_at.Goals.{in-Register, in-Location}

pub loop-named-preserved : goal.loop-named-preserved
loop-named-preserved c =
    let registers = c.args.registers.now in
    let memory = c.args.memory.now in
    let value = shown_value registers memory in
    let xs = c.args.list.now in
    let i = c.loop-named.named-index in
    let shown : c.match-named.value ≡ value (get_or xs i _) =
    elim c.match-named.branch [
      | in-Register w ↦
          register-shown registers memory _ w.in-Register.core w.in-Register.reg w.index.result _ w.in-Register.is w.index.ensures.place w.value-is
      | in-Location w ↦ location-shown registers memory _ w.in-Location.loc _ w.in-Location.is w.value-is
    ] in
    listed c.loop-named.values.items c.push.new.self.items _ (map value (drop (i + 1) xs)) (map value (drop i xs)) (map value xs)
    (c.in_ok-push.ensures.items ∙ ap (λ v. c.loop-named.values.items ++ v ∷ []) shown)
    (ap (map value) (drop_more xs i _ c.loop-named-test.true)) c.loop-named.invariant
