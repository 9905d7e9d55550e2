use Rattle.explorer.proofs.Vocabulary.{refl, map, ap, sym, ◌∙◌, subst, step, drain, arith, state_of_snapshot, state_of_packed}
use Rattle.explorer.proofs.Vocabulary.{IsExpandedEnough, IsVisited, ArePicksVisited, set_of}
use Rattle.explorer.proofs.Linking.{kept-at}
use Rattle.explorer.proofs.Searching.{expands-enough, current-here, current-is, current-grown, grows-none, grows-on, picks-more, visited-grown}
use Rattle.explorer.proofs.search.expand.Goals as goal

pub unpack-requires : goal.unpack-requires
unpack-requires c =
    c.requires.found.current
    ∙ sym (kept-at c.args.plan.now.test.now _ c.args.from c.index.result.now c.requires.found.cores c.index.ensures).cores

pub pick-picked-requires-clause-cores : goal.pick-picked-requires-clause-cores
pick-picked-requires-clause-cores c = c.in_ok-unpack.ensures.cores ∙ c.requires.found.current

pub loop-core-init : goal.loop-core-init
loop-core-init c = record {
  grows = grows-none _;
  found = let h = c.requires.found in record { cores = h.cores; linked = h.linked; current = c.in_ok-unpack.ensures.cores ∙ h.current; room = h.room };
  current = refl;
  visited = λ k l. absurd (omega (arith, l));
}

pub visit_if-requires-clause-current : goal.visit_if-requires-clause-current
visit_if-requires-clause-current c =
    current-grown _ _ _ _ _ c.loop-core.invariant.grows c.loop-core.invariant.current
    (current-here _ c.args.from c.index.result.now c.unpack.new.state c.index.ensures c.in_ok-unpack.ensures.value)

pub visit_if-requires-in-loop-core-clause-current : goal.visit_if-requires-in-loop-core-clause-current
visit_if-requires-in-loop-core-clause-current c =
    current-grown _ _ _ _ _ (grows-on _ _ _ c.loop-core.invariant.grows c.in_ok-visit_if.ensures.grows)
    (c.in_ok-visit_if.ensures.current ∙ c.loop-core.invariant.current)
    (current-here _ c.args.from c.index.result.now c.unpack.new.state c.index.ensures c.in_ok-unpack.ensures.value)

pub loop-core-preserved : goal.loop-core-preserved
loop-core-preserved c =
    let last = c.visit_if-in-loop-core.new.found.states.keys in
    let grown = c.in_ok-visit_if-2.ensures.grows in
    record {
      grows = grows-on _ _ _ (grows-on _ _ _ c.loop-core.invariant.grows c.in_ok-visit_if.ensures.grows) grown;
      found = c.in_ok-visit_if-2.ensures.found;
      current = c.in_ok-visit_if-2.ensures.current ∙ c.in_ok-visit_if.ensures.current ∙ c.loop-core.invariant.current;
      visited = picks-more _ _ _ _ _ _ _ _ _ (grows-on _ _ _ c.in_ok-visit_if.ensures.grows grown) c.loop-core.invariant.visited
          (subst (λ z.
          ArePicksVisited c.args.plan.now.depth c.args.plan.now.test.now c.args.plan.now.hidden.now
          c.args.plan.now.alike.items last z (set_of c.pick-picked.result) c.loop-core.core)
          (ap state_of_snapshot c.loop-core.invariant.current) (
            λ q.
                visited-grown c.args.plan.now.depth c.args.plan.now.test.now c.args.plan.now.hidden.now
                c.args.plan.now.alike.items _ _ _ (step c.loop-core.core) grown
                (c.in_ok-visit_if.ensures.visited (c.is_marked.ensures ∙ q)),
            λ q.
                subst (λ z.
                IsVisited c.args.plan.now.depth c.args.plan.now.test.now c.args.plan.now.hidden.now
                c.args.plan.now.alike.items last z (drain c.loop-core.core))
                (ap state_of_snapshot c.in_ok-visit_if.ensures.current) (c.in_ok-visit_if-2.ensures.visited (c.is_marked-in-loop-core.ensures ∙ q)),
          ));
    }

pub returns-clause-expanded : goal.returns-clause-expanded
returns-clause-expanded c = λ s at.
    let here = current-here c.args.found.now.states.keys c.args.from c.index.result.now c.unpack.new.state c.index.ensures c.in_ok-unpack.ensures.value in
    subst (λ z.
    IsExpandedEnough c.args.plan.now.depth c.args.plan.now.test.now c.args.plan.now.hidden.now
    c.args.plan.now.alike.items (map state_of_packed c.loop-core.found.states.keys) z)
    (current-is c.args.found.now.states.keys c.args.from c.unpack.new.state s here at)
    (expands-enough c.args.plan.now.depth c.args.plan.now.test.now c.args.plan.now.hidden.now
    c.args.plan.now.alike.items _ (state_of_snapshot c.unpack.new.state) (set_of c.pick-picked.result)
    c.pick-picked.ensures
    (λ k l. c.loop-core.invariant.visited k (let e = c.loop-core-test.false in let n = c.cores-core-end.ensures.value in omega (arith, e, n, l))))
