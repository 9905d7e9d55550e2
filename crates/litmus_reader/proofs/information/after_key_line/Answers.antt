use Rattle.litmus_reader.proofs.Vocabulary.{sym, ap, ◌∙◌, arith, Ok}
use Rattle.litmus_reader.proofs.Informed.{key_on, key_ends}
use Rattle.litmus_reader.proofs.information.after_key_line.Goals as goal

pub key-preserved : goal.key-preserved
key-preserved c = record {
  same =
      sym (key_on c.key.rest.now c.in-Some.after.now c.in-Some.first.now c.in-Some.ensures.cases.0
      (sym c.continues_key.ensures ∙ c.if-not-continues_key.false))
      ∙ c.key.invariant.same;
  within = omega (arith, c.key.invariant.within, c.in-Some.ensures.cases.1);
}

pub returns-then-first-eq61-clause-value : goal.returns-then-first-eq61-clause-value
returns-then-first-eq61-clause-value c =
    ap (λ z. Ok z.1) c.first_line.ensures.value
    ∙ sym
    (key_ends c.args.bytes.now c.key.rest.now c.in-Some.after.now c.in-Some.first.now c.in-Some.ensures.cases.0
    c.if-first-eq61.true c.key.invariant.same)
