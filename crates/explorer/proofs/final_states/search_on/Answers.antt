use Rattle.explorer.proofs.Vocabulary.{length, length-append, ap, arith, on-ok}
use Rattle.explorer.proofs.final_states.search_on.Goals as goal

pub returns-clause-whole : goal.returns-clause-whole
returns-clause-whole g c =
    on-ok c.run_on.result (λ grows whole.
    let q = ap length grows.1 in
    let n = length-append c.search_all.new.found.states.keys grows.0 in
    let l = c.if-len-limit.false in
    let m = c.len.ensures.len in
    absurd (omega (arith, q, n, l, m, whole))) c.run_on.ensures.grows
