use Rattle.std.proofs.Common.{◌∙◌, None, Some, sym}
use Rattle.litmus_tokens.proofs.Symbols.{symbol_looked, no_symbol, no_wedge, wedge_and, wedge_or, no_wedges}
use Rattle.litmus_tokens.proofs.lexing.symbol_of.Goals.{else-first-eq47-via-then-first-eq47+else-second-eq92}
use Rattle.litmus_tokens.proofs.lexing.symbol_of.Goals.{else-first-eq47-via-else-first-eq47}
use Rattle.litmus_tokens.proofs.lexing.symbol_of.Goals.{else-first-eq92-via-then-first-eq92+else-second-eq47}
use Rattle.litmus_tokens.proofs.lexing.symbol_of.Goals.{else-first-eq92-via-else-first-eq92}
use Rattle.litmus_tokens.proofs.lexing.symbol_of.Goals as goal

pub returns-in_default-clause-value : goal.returns-in_default-clause-value
returns-in_default-clause-value c = sym (no_symbol c.args.bytes.now c.in_default.ensures.cases)

pub returns-in-Some-single-clause-value : goal.returns-in-Some-single-clause-value
returns-in-Some-single-clause-value c =
    sym (symbol_looked c.args.bytes.now c.in-Some.rest.now c.in-Some.first.now (Some c.in-Some-single.symbol)
    c.in-Some.ensures.cases.0 (sym c.in-Some-single.is ∙ c.single.ensures))

pub returns-in_default-split_first-clause-value : goal.returns-in_default-split_first-clause-value
returns-in_default-split_first-clause-value c =
    sym (symbol_looked c.args.bytes.now c.in-Some.rest.now c.in-Some.first.now None c.in-Some.ensures.cases.0 (sym c.in_default-single.is ∙ c.single.ensures)
    ∙ no_wedge c.in-Some.first.now c.in-Some.rest.now c.in_default-split_first.ensures.cases)

pub returns-then-second-eq92-clause-value : goal.returns-then-second-eq92-clause-value
returns-then-second-eq92-clause-value c =
    sym (symbol_looked c.args.bytes.now c.in-Some.rest.now c.in-Some.first.now None c.in-Some.ensures.cases.0 (sym c.in_default-single.is ∙ c.single.ensures)
    ∙ wedge_and c.in-Some.first.now c.in-Some-split_first.second.now c.in-Some.rest.now c.in-Some-split_first.past.now
    c.in-Some-split_first.ensures.cases.0 c.if-first-eq47.true c.if-second-eq92.true)

pub returns-then-second-eq47-clause-value : goal.returns-then-second-eq47-clause-value
returns-then-second-eq47-clause-value c =
    sym (symbol_looked c.args.bytes.now c.in-Some.rest.now c.in-Some.first.now None c.in-Some.ensures.cases.0 (sym c.in_default-single.is ∙ c.single.ensures)
    ∙ wedge_or c.in-Some.first.now c.in-Some-split_first.second.now c.in-Some.rest.now c.in-Some-split_first.past.now
    c.in-Some-split_first.ensures.cases.0 c.if-first-eq92.true c.if-second-eq47.true)

pub returns-else-first-eq92-clause-value : goal.returns-else-first-eq92-clause-value
returns-else-first-eq92-clause-value c =
    sym (symbol_looked c.args.bytes.now c.in-Some.rest.now c.in-Some.first.now None c.in-Some.ensures.cases.0 (sym c.in_default-single.is ∙ c.single.ensures)
    ∙ no_wedges c.in-Some.first.now c.in-Some-split_first.second.now c.in-Some.rest.now c.in-Some-split_first.past.now c.in-Some-split_first.ensures.cases.0
    (λ one two. elim c.else-first-eq47.branch [
      | else-first-eq47-via-then-first-eq47+else-second-eq92 w ↦ w.if-second-eq92.false two
      | else-first-eq47-via-else-first-eq47 w ↦ w.if-first-eq47.false one
    ])
    (λ one two. elim c.else-first-eq92.branch [
      | else-first-eq92-via-then-first-eq92+else-second-eq47 w ↦ w.if-second-eq47.false two
      | else-first-eq92-via-else-first-eq92 w ↦ w.if-first-eq92.false one
    ]))
