use Rattle.refutations.proofs.Vocabulary.{◌≡◌, sym, ◌∙◌, known_of, all_known}
use Rattle.std.proofs.Common.{rules}
use Rattle.refutations.proofs.Rounds.{as-same, one-round, settled-at, with-all}
use Rattle.refutations.proofs.facts.known_facts.Goals as goal

pub returns-then-eq : goal.returns-then-eq
returns-then-eq c =
    let same : c.in_ok-facts.facts.writes.items ≡ c.loop-round.writes.items =
    as-same _ (λ x y e. search rules) c.in_ok-facts.facts.writes.items c.loop-round.writes.items (sym c.eq.ensures ∙ c.if-eq.true) in
    let all = settled-at c.args.test.now (known_of c.args.answers.now) c.args.events.now c.loop-round._round c.requires c.loop-round-test.true
    c.in_ok-facts.facts.writes.items c.loop-round.writes.items c.deref.result.now c.deref-in-loop-round.result.now c.deref.ensures.value
    c.deref-in-loop-round.ensures.value c.in_ok-facts.ensures.writes c.loop-round.invariant same in
    record {
      writes = all;
      count = c.in_ok-facts.ensures.count;
      registers = with-all c.args.test.now (known_of c.args.answers.now) c.in_ok-facts.facts.registers.items c.deref.result.now
          c.deref-in-loop-round.result.now (c.deref.ensures.value ∙ (sym same ∙ all)) c.deref-in-loop-round.ensures.value c.in_ok-facts.ensures.each;
    }

pub loop-round-preserved : goal.loop-round-preserved
loop-round-preserved c =
    one-round c.args.test.now (known_of c.args.answers.now) c.loop-round._round c.in_ok-facts.facts.writes.items c.loop-round.writes.items
    c.deref.result.now c.deref-in-loop-round.result.now c.deref.ensures.value c.deref-in-loop-round.ensures.value
    c.in_ok-facts.ensures.writes c.loop-round.invariant

pub returns : goal.returns
returns c =
    let ended : c.loop-round.writes.items ≡ all_known c.args.test.now (known_of c.args.answers.now) = search rules in
    record {
      writes = ended;
      count = c.in_ok-facts-2.ensures.count;
      registers = with-all c.args.test.now (known_of c.args.answers.now) c.in_ok-facts-2.facts.registers.items c.deref-2.result.now
          c.deref-3.result.now (c.deref-2.ensures.value ∙ ended) c.deref-3.ensures.value c.in_ok-facts-2.ensures.each;
    }
