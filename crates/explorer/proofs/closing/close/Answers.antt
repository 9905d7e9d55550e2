use Rattle.explorer.proofs.Vocabulary.{◌<◌, ◌≤◌, ◌==◌, length, arith, ap, sym, ◌∙◌}
use Rattle.explorer.proofs.Completing.{all-exchanged, all-exchanged-none, all-exchanged-more, no-pairs}
use Rattle.explorer.proofs.Marks.{none-left}
use Rattle.explorer.proofs.Searching.{grows-none, grows-on}
use Rattle.explorer.proofs.closing.close.Goals as goal
use Rattle.explorer.proofs.closing.close.Goals.{then-at-len-via-then-at-len, then-at-len-via-else-at-len+then-len-limit}

pub loop-at-preserved : goal.loop-at-preserved
loop-at-preserved c =
    let within : c.loop-at.at < length c.loop-at.found.states.keys = let l = c.if-at-len.false in let n = c.len.ensures.len in omega (arith, l, n) in
    record {
      grows = grows-on _ _ _ c.loop-at.invariant.grows c.in_ok-add_all_exchanged.ensures.grows;
      found = c.in_ok-add_all_exchanged.ensures.found;
      exchanged =
          all-exchanged-more c.args.plan.now.test.now c.args.plan.now.alike.items _ _ c.loop-at.at within
          c.in_ok-add_all_exchanged.ensures.grows c.loop-at.invariant.exchanged
          c.in_ok-add_all_exchanged.ensures.exchanged;
    }

pub returns-after-loop-at-clause-exchanged : goal.returns-after-loop-at-clause-exchanged
returns-after-loop-at-clause-exchanged c = λ whole.
    let all : length c.loop-at.found.states.keys ≤ c.loop-at.at = let l = c.loop-at-test.false in omega (arith, l, whole) in
    all-exchanged c.args.plan.now.test.now c.args.plan.now.alike.items c.loop-at.found.states.keys c.loop-at.at all c.loop-at.invariant.exchanged

pub returns-then-at-len-clause-exchanged : goal.returns-then-at-len-clause-exchanged
returns-then-at-len-clause-exchanged c = λ whole.
    let all : length c.loop-at.found.states.keys ≤ c.loop-at.at = elim c.then-at-len.branch [
      | then-at-len-via-then-at-len v ↦ let l = v.if-at-len.true in let n = c.len.ensures.len in omega (arith, l, n)
      | then-at-len-via-else-at-len+then-len-limit v ↦ let l = v.if-len-limit.true in let n = v.len-else-at-len.ensures.len in omega (arith, l, n, whole)
    ] in
    all-exchanged c.args.plan.now.test.now c.args.plan.now.alike.items c.loop-at.found.states.keys c.loop-at.at all c.loop-at.invariant.exchanged

pub returns-then-is_empty-clause-exchanged : goal.returns-then-is_empty-clause-exchanged
returns-then-is_empty-clause-exchanged c = λ whole. no-pairs c.args.plan.now.test.now c.args.plan.now.alike.items _ _
    (none-left c.args.plan.now.alike.items (ap (λ n. n == 0) (sym c.args.plan.now.alike.ok.0) ∙ sym c.is_empty.ensures ∙ c.if-is_empty.true))

pub loop-at-init : goal.loop-at-init
loop-at-init c = record {
  grows = grows-none _;
  found = c.requires.found;
  exchanged = all-exchanged-none c.args.plan.now.test.now c.args.plan.now.alike.items c.args.found.now.states.keys;
}
