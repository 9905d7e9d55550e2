use Rattle.explorer.proofs.Vocabulary.{◌≤◌, length, arith}
use Rattle.explorer.proofs.Searching.{expanded-more, covered-grown, closes}
use Rattle.explorer.proofs.search.expand_all.Goals as goal
use Rattle.explorer.proofs.search.expand_all.Goals.{then-at-len-via-then-at-len, then-at-len-via-else-at-len+then-len-limit}

pub loop-at-preserved : goal.loop-at-preserved
loop-at-preserved g c = record {
  found = c.in_ok-expand.ensures.found;
  first = covered-grown _ _ _ _ _ _ _ c.in_ok-expand.ensures.grows c.loop-at.invariant.first;
  each = let l = c.if-at-len.false in let n = c.len.ensures.len in
      expanded-more _ _ _ _ _ _ c.loop-at.at (omega (arith, l, n)) c.in_ok-expand.ensures.grows c.loop-at.invariant.each c.in_ok-expand.ensures.expanded;
}

pub tell-requires-clause-cores : goal.tell-requires-clause-cores
tell-requires-clause-cores g c = c.loop-at.invariant.found.cores

pub tell-requires-clause-room : goal.tell-requires-clause-room
tell-requires-clause-room g c = c.loop-at.invariant.found.room

pub expand-requires-clause-found : goal.expand-requires-clause-found
expand-requires-clause-found g c =
    let h = c.loop-at.invariant.found in
    record { cores = h.cores; linked = h.linked; current = h.current; room = c.in_ok-tell.ensures.room }

pub returns-after-loop-at-clause-closed : goal.returns-after-loop-at-clause-closed
returns-after-loop-at-clause-closed g c = λ whole.
    let all : length c.loop-at.found.states.keys ≤ c.loop-at.at = let l = c.loop-at-test.false in omega (arith, l, whole) in
    closes c.args.plan.now.depth c.args.plan.now.test.now c.args.plan.now.hidden.now c.args.plan.now.alike.items
    c.loop-at.found.states.keys c.loop-at.at all c.loop-at.invariant.first c.loop-at.invariant.each

pub returns-then-at-len-clause-closed : goal.returns-then-at-len-clause-closed
returns-then-at-len-clause-closed g c = λ whole.
    let all : length c.loop-at.found.states.keys ≤ c.loop-at.at = elim c.then-at-len.branch [
      | then-at-len-via-then-at-len v ↦ let l = v.if-at-len.true in let n = c.len.ensures.len in omega (arith, l, n)
      | then-at-len-via-else-at-len+then-len-limit v ↦ let l = v.if-len-limit.true in let n = v.len-else-at-len.ensures.len in omega (arith, l, n, whole)
    ] in
    closes c.args.plan.now.depth c.args.plan.now.test.now c.args.plan.now.hidden.now c.args.plan.now.alike.items
    c.loop-at.found.states.keys c.loop-at.at all c.loop-at.invariant.first c.loop-at.invariant.each

pub loop-at-init : goal.loop-at-init
loop-at-init g c = record {
  found = c.requires.found;
  first = c.requires.covered;
  each = λ i x l q. absurd (omega (arith, l));
}
