use Rattle.axiom_checker.proofs.Vocabulary.{None, ◌<◌, length, slice_get, ap, sym, ◌∙◌, arith, subst, refl, ◌+◌, length-set, unwrap_or, HasMet}
use Rattle.order_breaches.proofs.Marking.{AreMarks, AreWords, of_core, past_loads, marks-none, all-reached, all-settled, words-written}
use Rattle.order_breaches.proofs.Meeting.{met-more, nothing-met, late-within, ahead, no-more-looks, core-within, word-within}
use Rattle.order_breaches.proofs.Looks.{end-is}
use Rattle.axiom_checker.proofs.passing.pass.Goals as goal

pub returns-then-len-eq0-clause-met : goal.returns-then-len-eq0-clause-met
returns-then-len-eq0-clause-met g c t w m =
    subst (λ n.
    HasMet t c.args.order.now.order n (record {
      wrong_write = None;
      late = None;
      separated = None;
      wrong_read = None;
    }))
    (sym c.if-len-eq0.true ∙ c.len.ensures) (nothing-met t c.args.order.now.order)

pub loop-at-init : goal.loop-at-init
loop-at-init g c =
    let order = c.args.order.now.order in
    let looked = ap (λ s. s.looks) c.look-x.ensures.counted in
    let some : 0 < length order = let no = c.if-len-eq0.false in let is = c.len.ensures in grind (arith, no, is) in
    record {
      order = ap (λ s. s.order) c.look-x.ensures.counted;
      here = λ _. c.look-x.ensures.entry;
      looks = omega (arith, looked);
      no_more = omega (arith, looked, some);
      reached = marks-none order of_core c.args.reached.now (λ k. (c.requires.none_yet k).0);
      settled = marks-none order past_loads c.args.settled.now (λ k. (c.requires.none_yet k).1);
      words = λ loc. refl;
      within = tt;
      met = λ t w m. nothing-met t order;
    }

pub late-requires : goal.late-requires
late-requires g c =
    let order = c.args.order.now.order in
    let inside : c.loop-at.at < length order =
    subst (λ n. c.loop-at.at < n) (c.len-at-end.ensures ∙ ap (λ s. length s.order) c.look-x.ensures.counted) c.loop-at-test.true in
    record {
      reached =
          core-within c.args.programs.made.now _ _ order c.requires.of_programs c.loop-at.at c.loop-at.x
          (c.loop-at.invariant.here inside) (length c.loop-at.reached) c.loop-at.auto.reached;
      settled =
          core-within c.args.programs.made.now _ _ order c.requires.of_programs c.loop-at.at c.loop-at.x
          (c.loop-at.invariant.here inside) (length c.loop-at.settled) (c.loop-at.auto.settled ∙ c.requires.settled);
    }

pub reach-requires : goal.reach-requires
reach-requires g c =
    let order = c.args.order.now.order in
    let inside : c.loop-at.at < length order =
    subst (λ n. c.loop-at.at < n) (c.len-at-end.ensures ∙ ap (λ s. length s.order) c.look-x.ensures.counted) c.loop-at-test.true in
    core-within c.args.programs.made.now _ _ order c.requires.of_programs c.loop-at.at c.loop-at.x
    (c.loop-at.invariant.here inside) (length c.loop-at.reached) c.loop-at.auto.reached

pub settle-requires : goal.settle-requires
settle-requires g c =
    let order = c.args.order.now.order in
    let inside : c.loop-at.at < length order =
    subst (λ n. c.loop-at.at < n) (c.len-at-end.ensures ∙ ap (λ s. length s.order) c.look-x.ensures.counted) c.loop-at-test.true in
    core-within c.args.programs.made.now _ _ order c.requires.of_programs c.loop-at.at c.loop-at.x
    (c.loop-at.invariant.here inside) (length c.loop-at.settled) (c.loop-at.auto.settled ∙ c.requires.settled)

pub write-requires : goal.write-requires
write-requires g c =
    let order = c.args.order.now.order in
    let inside : c.loop-at.at < length order =
    subst (λ n. c.loop-at.at < n) (c.len-at-end.ensures ∙ ap (λ s. length s.order) c.look-x.ensures.counted) c.loop-at-test.true in
    word-within c.args.programs.made.now _ _ order c.requires.of_programs c.loop-at.at c.loop-at.x
    (c.loop-at.invariant.here inside) (length c.loop-at.words) c.loop-at.auto.words

pub loop-at-preserved : goal.loop-at-preserved
loop-at-preserved g c =
    let order = c.args.order.now.order in
    let at = c.loop-at.at in
    let x = c.loop-at.x in
    let inside : at < length order = let l = c.loop-at-test.true in
    let n = c.len-at-end.ensures in
    let o = ap (λ s. length s.order) c.look-x.ensures.counted in
    omega (arith, l, n, o) in
    let here = c.loop-at.invariant.here inside in
    let next = c.entry_after-next.ensures.next ∙ ap (λ o. unwrap_or (slice_get o (at + 1)) x) c.loop-at.invariant.order in
    let ours = c.requires.of_programs in
    let core = ours.of_a_core at x here in
    let all : x.core.0 < length c.loop-at.reached = let n = c.loop-at.auto.reached in omega (arith, core, n) in
    let others : x.core.0 < length c.loop-at.settled = let n = c.loop-at.auto.settled in let m = c.requires.settled in omega (arith, core, n, m) in
    let looks = c.loop-at.invariant.looks in
    let step = c.entry_after-next.ensures.looks in
    let last = c.entry_after-next.ensures.last in
    record {
      order = c.entry_after-next.ensures.same ∙ c.loop-at.invariant.order;
      here = λ l. ahead order (at + 1) x c.entry_after-next.result l next;
      looks = omega (arith, looks, step);
      no_more =
          no-more-looks c.args.order.now.looks (length order) at c.loop-at.order.looks
          c.entry_after-next.new.order.looks looks c.loop-at.invariant.no_more step
          (λ l. last (let n = ap length c.loop-at.invariant.order in omega (arith, n, l)));
      reached = subst (λ m. AreMarks order (at + 1) of_core m) (sym c.reach.ensures)
          (all-reached order at c.loop-at.reached x here all (length-set c.loop-at.reached x.core.0 _) c.loop-at.invariant.reached);
      settled = subst (λ m. AreMarks order (at + 1) past_loads m) (sym c.settle.ensures)
          (all-settled order at c.loop-at.settled x here others (length-set c.loop-at.settled x.core.0 _) c.loop-at.invariant.settled);
      words = subst (λ w. AreWords order (at + 1) c.args.words.now w) (sym c.write.ensures)
          (words-written order at c.args.words.now c.loop-at.words x here
          (λ w. let l = ours.to_a_word at x here w in let n = c.loop-at.auto.words in omega (arith, l, n))
          c.loop-at.invariant.words);
      within =
          late-within (length order) at x inside c.loop-at.met.late c.late.result c.first-in-loop-at.result _
          c.late.ensures c.first-in-loop-at.ensures c.loop-at.invariant.within;
      met = λ t w m.
          let ours_too = ours.made_by_one at x here in
          met-more t order at x here c.args.programs.made.now m c.loop-at.reached c.loop-at.settled c.loop-at.words
          c.args.words.now w c.loop-at.invariant.reached c.loop-at.invariant.settled c.loop-at.invariant.words all
          others
          c.entry_after-next.result next
          c.wrong_write.result (c.wrong_write.ensures.found ours_too) (c.wrong_write.ensures.none ours_too)
          c.late.result c.late.ensures
          c.separated.result c.separated.ensures.found c.separated.ensures.none
          c.wrong_read.result (c.wrong_read.ensures.found ours_too) (c.wrong_read.ensures.none ours_too)
          c.loop-at.met _ c.first.ensures c.first-in-loop-at.ensures c.first-in-loop-at-2.ensures c.first-in-loop-at-3.ensures
          (c.loop-at.invariant.met t w m);
    }

pub returns-clause-met : goal.returns-clause-met
returns-clause-met g c t w m =
    let order = c.args.order.now.order in
    let at_end =
    end-is c.loop-at.at (length order) c.len-at-end.result
    (c.len-at-end.ensures ∙ ap (λ s. length s.order) c.look-x.ensures.counted) c.loop-at.auto.at-end
    c.loop-at-test.false in
    subst (λ n. HasMet t order n c.loop-at.met) at_end (c.loop-at.invariant.met t w m)
