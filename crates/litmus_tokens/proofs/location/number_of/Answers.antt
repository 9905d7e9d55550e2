use Rattle.std.proofs.Common.{◌≡◌, length, sym, ◌∙◌, arith}
use Rattle.litmus_tokens.proofs.Maps.{search_on, search_here, search_ends}
use Rattle.litmus_tokens.proofs.Numbering.{is_name, number_is}
use Rattle.litmus_tokens.proofs.location.number_of.Goals as goal

pub loop-number-init : goal.loop-number-init
loop-number-init c = omega arith

pub loop-number-preserved : goal.loop-number-preserved
loop-number-preserved c =
    search_on (is_name c.args.name.now) c.args.names.now c.loop-number.number _ c.loop-number-test.true (sym c.eq.ensures ∙ c.if-eq.false)
    ∙ c.loop-number.invariant

pub returns-then-eq : goal.returns-then-eq
returns-then-eq c =
    number_is c.args.names.now c.args.name.now c.loop-number.number _ c.loop-number.invariant
    (search_here (is_name c.args.name.now) c.args.names.now c.loop-number.number _ c.loop-number-test.true (sym c.eq.ensures ∙ c.if-eq.true))

pub returns : goal.returns
returns c =
    let n = c.loop-number-test.false in
    let m = c.loop-number.auto.number-end in
    let all : length c.args.names.now ≡ c.loop-number.number = omega (arith, n, m) in
    all
    ∙ number_is c.args.names.now c.args.name.now c.loop-number.number _ c.loop-number.invariant
    (search_ends (is_name c.args.name.now) c.args.names.now c.loop-number.number n m)
