use Rattle.explorer.proofs.Vocabulary.{ap, sym, ◌∙◌, arith, subst, AreAllAlike}
use Rattle.explorer.proofs.Mapping.{pairs-more}
use Rattle.explorer.proofs.Same.{words-same, tests-same}
use Rattle.explorer.proofs.alike.alike_pairs.Goals as goal
use Rattle.explorer.proofs.alike.alike_pairs.Goals.{else-loop-other-test, then-loop-other-test+then-eq+then-eq-2+then-is_same_program+in_ok-push}

pub loop-core-preserved : goal.loop-core-preserved
loop-core-preserved c = elim c.loop-other-test.branch [
  | else-loop-other-test w ↦ subst (AreAllAlike c.args.test.now c.args.hidden.now) (sym (ap (λ z. z.items) w.pairs-is)) c.loop-other.invariant
  | then-loop-other-test+then-eq+then-eq-2+then-is_same_program+in_ok-push w ↦
      pairs-more c.args.test.now c.args.hidden.now c.loop-other.pairs.items c.loop-other-test.pairs.items _ c.loop-other.invariant (record {
        first = let l = c.loop-core-test.true in let n = c.cores-cores.ensures.value in omega (arith, l, n);
        second = let l = w.loop-other-test.true in let n = c.cores-cores.ensures.value in omega (arith, l, n);
        programs = sym w.program.ensures.value ∙ w.is_same_program.ensures w.if-is_same_program.true ∙ w.program-then-eq-2.ensures.value;
        registers = sym c.initial_registers-registers.ensures ∙ words-same _ _ (sym w.eq.ensures ∙ w.if-eq.true) ∙ w.initial_registers.ensures;
        hidden_too = sym w.hidden_of.ensures ∙ tests-same _ _ (sym w.eq-then-eq.ensures ∙ w.if-eq-2.true) ∙ w.hidden_of-then-eq.ensures;
      }) (ap (λ z. z.items) w.pairs-is ∙ w.in_ok-push.ensures.items)
]
