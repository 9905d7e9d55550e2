use Rattle.std.proofs.Common.{◌+◌, ◌++◌, ℕ, List, length-drop, take, drop, refl, sym, ap, subst, ◌∙◌, arith, take-append-drop}
use Rattle.std.specs.Option.{option_map}
use Rattle.tso_cli.specs.inner.Dividing.{begins_line, after_bytes}
use Rattle.tso_cli.proofs.Lines.{IsUpTo, up_to_sign, sign_there, told, at_divider, past_sign, no_sign, from_place, next_sign, nowhere_left}
use Rattle.tso_cli.proofs.dividing.parts_of.Goals as goal

pub loop-sign-init : goal.loop-sign-init
unfolding after_bytes
loop-sign-init c = record { within = omega arith; test = refl; rest = refl }

pub returns-in-Some-divided_at-clause-test : goal.returns-in-Some-divided_at-clause-test
returns-in-Some-divided_at-clause-test c =
    let input = c.args.input.now in
    let at = c.loop-sign.at in
    let n = c.in-Some.sign in
    let i = c.loop-sign.invariant in
    let next = next_sign _ _ n (from_place input at) c.in-Some.ensures in
    let so_far = up_to_sign input at n (omega (arith, next.within)) next.before (record { test = i.test; rest = i.rest }) in
    let found = told _ (take (at + n) input) c.split_at.result.1.now _ c.split_at.ensures.front c.divided_at.ensures
    ∙ ap (option_map (λ rest. rest.now)) c.in-Some-divided_at.is in
    c.split_at.ensures.front ∙ sym (at_divider input c.split_at.result.1.now _ (at + n) c.split_at.ensures.back found so_far).0

pub returns-in-Some-divided_at-clause-rest : goal.returns-in-Some-divided_at-clause-rest
returns-in-Some-divided_at-clause-rest c =
    let input = c.args.input.now in
    let at = c.loop-sign.at in
    let n = c.in-Some.sign in
    let i = c.loop-sign.invariant in
    let next = next_sign _ _ n (from_place input at) c.in-Some.ensures in
    let so_far = up_to_sign input at n (omega (arith, next.within)) next.before (record { test = i.test; rest = i.rest }) in
    let found = told _ (take (at + n) input) c.split_at.result.1.now _ c.split_at.ensures.front c.divided_at.ensures
    ∙ ap (option_map (λ rest. rest.now)) c.in-Some-divided_at.is in
    sym (at_divider input c.split_at.result.1.now _ (at + n) c.split_at.ensures.back found so_far).1

pub loop-sign-preserved : goal.loop-sign-preserved
loop-sign-preserved c =
    let input = c.args.input.now in
    let at = c.loop-sign.at in
    let n = c.in-Some.sign in
    let i = c.loop-sign.invariant in
    let lines = c.split_at.result.1.now in
    let next = next_sign _ _ n (from_place input at) c.in-Some.ensures in
    let so_far = up_to_sign input at n (omega (arith, next.within)) next.before (record { test = i.test; rest = i.rest }) in
    let none = told _ (take (at + n) input) c.split_at.result.1.now _ c.split_at.ensures.front c.divided_at.ensures
    ∙ ap (option_map (λ rest. rest.now)) c.in_default-divided_at.is in
    let sign = sign_there input lines at n c.split_at.ensures.back next in
    let on = past_sign input lines _ (at + n) (omega (arith, next.within, length-drop at input)) c.split_at.ensures.back sign none so_far in
    let more = subst (IsUpTo input) (omega arith) on in
    record { within = omega (arith, next.within, length-drop at input); test = more.test; rest = more.rest }

pub returns-clause-test : goal.returns-clause-test
returns-clause-test c =
    let input = c.args.input.now in
    let at = c.loop-sign.at in
    let i = c.loop-sign.invariant in
    let left = no_sign (begins_line (take at input)) (drop at input) (nowhere_left _ _ (from_place input at) c.in_default.ensures) in
    sym (i.test ∙ ap (λ (ds : List ℕ). take at input ++ ds) left.0 ∙ take-append-drop at input)

pub returns-clause-rest : goal.returns-clause-rest
returns-clause-rest c =
    let input = c.args.input.now in
    let at = c.loop-sign.at in
    let i = c.loop-sign.invariant in
    let left = no_sign (begins_line (take at input)) (drop at input) (nowhere_left _ _ (from_place input at) c.in_default.ensures) in
    sym (i.rest ∙ left.1)
