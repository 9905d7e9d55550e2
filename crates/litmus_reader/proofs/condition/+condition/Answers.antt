use Rattle.litmus_reader.proofs.Vocabulary.{◌∙◌, ◌<◌, length, sym, ap, arith, Err, err_from_is_err_and, length-map, claim_of, And, Or}
use Rattle.litmus_reader.proofs.Vocabulary.{pieces, texts, claimed, AndClaim, OrClaim, unit_at, conjunction, fault, TooLarge}
use Rattle.litmus_reader.proofs.Units.{unit_atom, unit_refused, unit_opened, shorter_still}
use Rattle.litmus_reader.proofs.Chains.{chain_start, chain_end, chain_joined, chain_stops, chain_never_starts}
use Rattle.litmus_reader.proofs.condition.+condition.Goals as goal

pub conjunction_at-returns-in_err-prop-clause-value : goal.conjunction_at-returns-in_err-prop-clause-value
conjunction_at-returns-in_err-prop-clause-value bound c =
    let p = err_from_is_err_and c.from_residual.result c.from_residual.ensures.1 in
    rw (p.1, p.2) (chain_never_starts c.in_err-prop.field-0.0 And AndClaim
    (unit_at c.args.around.stop c.args.around.cores c.args.opens) c.args.atoms.now (texts c.args.names.now.items)
    (pieces c.args.tokens.now) c.in_err-prop.ensures.value)

pub conjunction_at-loop-next-init : goal.conjunction_at-loop-next-init
conjunction_at-loop-next-init bound c = record {
  chain =
      chain_start And AndClaim
      (unit_at c.args.around.stop c.args.around.cores c.args.opens) c.args.atoms.now (texts c.args.names.now.items)
      (pieces c.args.tokens.now) _ c.in_ok-prop.ensures.value;
  within = c.in_ok-prop.ensures.shorter;
}

pub conjunction_at-returns-in_err-whole-clause-value : goal.conjunction_at-returns-in_err-whole-clause-value
conjunction_at-returns-in_err-whole-clause-value bound c =
    let p = err_from_is_err_and c.from_residual-in_err-whole.result c.from_residual-in_err-whole.ensures.1 in
    rw (p.1, p.2) (chain_stops c.in_err-whole.field-0.0 And AndClaim
    (unit_at c.args.around.stop c.args.around.cores c.args.opens)
    (claimed (claim_of c.loop-next.prop) c.loop-next.atoms (texts c.loop-next.names.items) (pieces c.loop-next.rest.now))
    (pieces c.in-Some.next.now) _ c.in-Some.ensures.value
    (c.in_err-whole.ensures.value c.unit_at-unit.new.atoms (texts c.unit_at-unit.new.names.items) _ c.unit_at-unit.ensures.value) c.loop-next.invariant.chain)

pub conjunction_at-loop-next-preserved : goal.conjunction_at-loop-next-preserved
conjunction_at-loop-next-preserved bound c =
    let next : length c.in_ok-whole.after.now < length c.in-Some.next.now =
    c.in_ok-whole.ensures.shorter (length c.in-Some.next.now) c.unit_at-unit.ensures.shorter in
    let shorter : length (pieces c.in_ok-whole.after.now) < length (pieces c.loop-next.rest.now) =
    simp length-map (omega (arith, next, c.in-Some.ensures.shorter)) in
    record {
      chain =
          chain_joined And AndClaim
          (unit_at c.args.around.stop c.args.around.cores c.args.opens)
          (claimed (claim_of c.loop-next.prop) c.loop-next.atoms (texts c.loop-next.names.items) (pieces c.loop-next.rest.now))
          _ (pieces c.in-Some.next.now) _ c.in-Some.ensures.value
          (c.in_ok-whole.ensures.value c.unit_at-unit.new.atoms (texts c.unit_at-unit.new.names.items) _ c.unit_at-unit.ensures.value)
          shorter c.loop-next.invariant.chain;
      within = omega (arith, next, c.in-Some.ensures.shorter, c.loop-next.invariant.within);
    }

pub conjunction_at-loop-next-smaller : goal.conjunction_at-loop-next-smaller
conjunction_at-loop-next-smaller bound c =
    let next : length c.in_ok-whole.after.now < length c.in-Some.next.now =
    c.in_ok-whole.ensures.shorter (length c.in-Some.next.now) c.unit_at-unit.ensures.shorter in
    omega (arith, next, c.in-Some.ensures.shorter)

pub conjunction_at-returns-clause-value : goal.conjunction_at-returns-clause-value
conjunction_at-returns-clause-value bound c =
    chain_end And AndClaim (unit_at c.args.around.stop c.args.around.cores c.args.opens)
    (claimed (claim_of c.loop-next.prop) c.loop-next.atoms (texts c.loop-next.names.items) (pieces c.loop-next.rest.now))
    _ (sym c.in_default.ensures.value) c.loop-next.invariant.chain

pub proposition_at-returns-in_err-prop-clause-value : goal.proposition_at-returns-in_err-prop-clause-value
proposition_at-returns-in_err-prop-clause-value bound c =
    let p = err_from_is_err_and c.from_residual.result c.from_residual.ensures.1 in
    rw (p.1, p.2) (chain_never_starts c.in_err-prop.field-0.0 Or OrClaim
    (conjunction (unit_at c.args.around.stop c.args.around.cores c.args.opens)) c.args.atoms.now
    (texts c.args.names.now.items) (pieces c.args.tokens.now) c.in_err-prop.ensures.value)

pub proposition_at-loop-next-init : goal.proposition_at-loop-next-init
proposition_at-loop-next-init bound c = record {
  chain =
      chain_start Or OrClaim
      (conjunction (unit_at c.args.around.stop c.args.around.cores c.args.opens)) c.args.atoms.now
      (texts c.args.names.now.items) (pieces c.args.tokens.now) _ c.in_ok-prop.ensures.value;
  within = c.in_ok-prop.ensures.shorter;
}

pub proposition_at-returns-in_err-whole-clause-value : goal.proposition_at-returns-in_err-whole-clause-value
proposition_at-returns-in_err-whole-clause-value bound c =
    let p = err_from_is_err_and c.from_residual-in_err-whole.result c.from_residual-in_err-whole.ensures.1 in
    rw (p.1, p.2) (chain_stops c.in_err-whole.field-0.0 Or OrClaim
    (conjunction (unit_at c.args.around.stop c.args.around.cores c.args.opens))
    (claimed (claim_of c.loop-next.prop) c.loop-next.atoms (texts c.loop-next.names.items) (pieces c.loop-next.rest.now))
    (pieces c.in-Some.next.now) _ c.in-Some.ensures.value
    (c.in_err-whole.ensures.value c.conjunction_at-conjunction.new.atoms
    (texts c.conjunction_at-conjunction.new.names.items) _ c.conjunction_at-conjunction.ensures.value)
    c.loop-next.invariant.chain)

pub proposition_at-loop-next-preserved : goal.proposition_at-loop-next-preserved
proposition_at-loop-next-preserved bound c =
    let next : length c.in_ok-whole.after.now < length c.in-Some.next.now =
    c.in_ok-whole.ensures.shorter (length c.in-Some.next.now) c.conjunction_at-conjunction.ensures.shorter in
    let shorter : length (pieces c.in_ok-whole.after.now) < length (pieces c.loop-next.rest.now) =
    simp length-map (omega (arith, next, c.in-Some.ensures.shorter)) in
    record {
      chain =
          chain_joined Or OrClaim (conjunction (unit_at c.args.around.stop c.args.around.cores c.args.opens))
          (claimed (claim_of c.loop-next.prop) c.loop-next.atoms (texts c.loop-next.names.items) (pieces c.loop-next.rest.now))
          _ (pieces c.in-Some.next.now) _ c.in-Some.ensures.value
          (c.in_ok-whole.ensures.value c.conjunction_at-conjunction.new.atoms
          (texts c.conjunction_at-conjunction.new.names.items) _ c.conjunction_at-conjunction.ensures.value)
          shorter c.loop-next.invariant.chain;
      within = omega (arith, next, c.in-Some.ensures.shorter, c.loop-next.invariant.within);
    }

pub proposition_at-loop-next-smaller : goal.proposition_at-loop-next-smaller
proposition_at-loop-next-smaller bound c =
    let next : length c.in_ok-whole.after.now < length c.in-Some.next.now =
    c.in_ok-whole.ensures.shorter (length c.in-Some.next.now) c.conjunction_at-conjunction.ensures.shorter in
    omega (arith, next, c.in-Some.ensures.shorter)

pub proposition_at-returns-clause-value : goal.proposition_at-returns-clause-value
proposition_at-returns-clause-value bound c =
    chain_end Or OrClaim (conjunction (unit_at c.args.around.stop c.args.around.cores c.args.opens))
    (claimed (claim_of c.loop-next.prop) c.loop-next.atoms (texts c.loop-next.names.items) (pieces c.loop-next.rest.now))
    _ (sym c.in_default.ensures.value) c.loop-next.invariant.chain

pub unit_at-returns-in_default-clause-value : goal.unit_at-returns-in_default-clause-value
unit_at-returns-in_default-clause-value bound c =
    rw (unit_atom c.args.around.stop c.args.around.cores c.args.opens c.args.atoms.now (texts c.args.names.now.items)
    (pieces c.args.tokens.now) c.in_default.ensures.value)
    c.atom_at.ensures.value

pub unit_at-returns-then-opens-eq0-clause-value : goal.unit_at-returns-then-opens-eq0-clause-value
unit_at-returns-then-opens-eq0-clause-value bound c =
    unit_refused c.args.around.stop c.args.around.cores c.args.opens c.args.atoms.now (texts c.args.names.now.items)
    (pieces c.args.tokens.now) _ c.if-opens-eq0.true c.in-Some.ensures.value
    ∙ ap (λ n. Err (fault TooLarge n)) (sym c.remaining_of.ensures)

pub unit_at-returns-clause-value : goal.unit_at-returns-clause-value
unit_at-returns-clause-value bound c =
    let some : 0 < c.args.opens = let n = c.if-opens-eq0.false in omega (arith, n) in
    rw (unit_opened c.args.around.stop c.args.around.cores c.in-Some.opening c.args.opens c.args.atoms.now
    (texts c.args.names.now.items) (pieces c.args.tokens.now) (pieces c.in-Some.inside.now) some
    c.in-Some.ensures.value)
    c.opened_at.ensures.value

pub unit_at-returns-clause-shorter : goal.unit_at-returns-clause-shorter
unit_at-returns-clause-shorter bound c =
    shorter_still _ (length c.in-Some.inside.now) (length c.args.tokens.now) c.in-Some.ensures.shorter c.opened_at.ensures.shorter

pub opened_at-returns-in-Negation-clause-value : goal.opened_at-returns-in-Negation-clause-value
opened_at-returns-in-Negation-clause-value bound c =
    rw c.in-Negation.is (c.negated.ensures.value c.unit_at-read.new.atoms (texts c.unit_at-read.new.names.items) _ c.unit_at-read.ensures.value)

pub opened_at-returns-in-Negation-clause-shorter : goal.opened_at-returns-in-Negation-clause-shorter
opened_at-returns-in-Negation-clause-shorter bound c = c.negated.ensures.shorter (length c.args.inside.now) c.unit_at-read.ensures.shorter

pub opened_at-returns-in-Bracket-clause-value : goal.opened_at-returns-in-Bracket-clause-value
opened_at-returns-in-Bracket-clause-value bound c =
    rw c.in-Bracket.is
    (c.closed.ensures.value c.proposition_at-read.new.atoms (texts c.proposition_at-read.new.names.items) _ c.proposition_at-read.ensures.value)

pub opened_at-returns-in-Bracket-clause-shorter : goal.opened_at-returns-in-Bracket-clause-shorter
opened_at-returns-in-Bracket-clause-shorter bound c = c.closed.ensures.shorter (length c.args.inside.now) c.proposition_at-read.ensures.shorter
