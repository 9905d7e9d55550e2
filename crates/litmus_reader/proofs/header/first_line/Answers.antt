use Rattle.litmus_reader.proofs.Vocabulary.{ℕ, sym, ◌∙◌, arith, eqb, eq-eqb, ne_eqb}
use Rattle.litmus_tokens.proofs.Maps.{search_on, search_here, search_ends}
use Rattle.litmus_reader.proofs.Scans.{found_at, found_nowhere}
use Rattle.litmus_reader.proofs.Lines.{line_cut, line_last}
use Rattle.litmus_reader.proofs.header.first_line.Goals as goal

pub loop-at-init : goal.loop-at-init
loop-at-init c = omega arith

pub loop-at-preserved : goal.loop-at-preserved
loop-at-preserved c =
    search_on (λ (b : ℕ). eqb b 10) c.args.bytes.now c.loop-at.at 0 c.loop-at-test.true (ne_eqb _ _ c.if-bytes-at-eq10.false)
    ∙ c.loop-at.invariant

pub returns-then-bytes-at-eq10-clause-value : goal.returns-then-bytes-at-eq10-clause-value
returns-then-bytes-at-eq10-clause-value c =
    sym (line_cut c.args.bytes.now c.loop-at.at (found_at (λ (b : ℕ). eqb b 10) c.args.bytes.now c.loop-at.at _ c.loop-at-test.true c.loop-at.invariant
    (search_here (λ (b : ℕ). eqb b 10) c.args.bytes.now c.loop-at.at 0 c.loop-at-test.true (eq-eqb _ _ c.if-bytes-at-eq10.true))))

pub returns-clause-value : goal.returns-clause-value
returns-clause-value c =
    sym (line_last c.args.bytes.now (found_nowhere (λ (b : ℕ). eqb b 10) c.args.bytes.now c.loop-at.at _ c.loop-at-test.false c.loop-at.invariant
    (search_ends (λ (b : ℕ). eqb b 10) c.args.bytes.now c.loop-at.at c.loop-at-test.false c.loop-at.auto.at-end)))
