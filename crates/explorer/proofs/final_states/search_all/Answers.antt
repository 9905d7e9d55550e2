use Rattle.explorer.proofs.Vocabulary.{length, length-append, ap, arith, on-ok-2}
use Rattle.explorer.proofs.final_states.search_all.Goals as goal

pub returns-clause-whole : goal.returns-clause-whole
returns-clause-whole g c =
    on-ok-2 c.close.result (λ grows exchanged whole. record {
      earlier = c.expand_all.new.found.states.keys;
      closed =
          c.in_ok-expand_all.ensures.closed
          (let q =
          ap length grows.1 in
          let n = length-append c.expand_all.new.found.states.keys grows.0 in
          omega (arith, q, n, whole));
      grows = grows;
      exchanged = exchanged whole;
    }) c.close.ensures.grows c.close.ensures.exchanged
