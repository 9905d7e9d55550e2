use Rattle.std.proofs.Common.{sym, ◌∙◌, arith}
use Rattle.litmus_tokens.proofs.Prefixes.{prefix_begins, prefix_on, prefix_is, prefix_all}
use Rattle.tso_terms.specs.Names as names
use Rattle.litmus_tokens.proofs.lexing.name_len.Goals as goal

pub loop-at-init : goal.loop-at-init
loop-at-init c = record { some = omega arith; same = prefix_begins names.continues_name c.args.bytes.now c.requires.some c.requires.begins }

pub loop-at-preserved : goal.loop-at-preserved
loop-at-preserved c = record {
  some = omega arith;
  same =
      prefix_on names.continues_name c.args.bytes.now c.loop-at.at _ c.loop-at-test.true (sym c.goes_on.ensures ∙ c.if-not-goes_on.false)
      ∙ c.loop-at.invariant.same;
}

pub returns-then-not-goes_on-clause-value : goal.returns-then-not-goes_on-clause-value
returns-then-not-goes_on-clause-value c =
    prefix_is names.continues_name c.args.bytes.now c.loop-at.at _ c.loop-at-test.true
    (sym c.goes_on.ensures ∙ c.if-not-goes_on.true) c.loop-at.invariant.same

pub returns-clause-value : goal.returns-clause-value
returns-clause-value c =
    prefix_all names.continues_name c.args.bytes.now c.loop-at.at c.loop-at-test.false
    (c.loop-at.auto.at-end (let some = c.requires.some in omega (arith, some))) c.loop-at.invariant.same
