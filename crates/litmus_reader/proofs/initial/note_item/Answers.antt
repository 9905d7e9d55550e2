use Rattle.litmus_reader.proofs.Vocabulary.{◌≡◌, true, false, refl, ap, ◌∙◌, list_any, texts, given_of, gives}
use Rattle.litmus_tokens.specs.inner.Numerals.{numeral_of}
use Rattle.std.specs.Prelude.{not}
use Rattle.litmus_reader.proofs.Listed.{judged_twice, judged_new, given_unless_first}
use Rattle.litmus_reader.proofs.initial.note_item.Goals as goal

pub returns-then-not-is_first-clause-value : goal.returns-then-not-is_first-clause-value
returns-then-not-is_first-clause-value c =
    let twice : list_any (λ r. gives c.in-Register.core.now c.in-Register.reg (given_of r)) c.args.state.now.registers.items ≡ true =
    given_unless_first c.in-Register.core.now c.in-Register.reg _ c.args.state.now.given.keys
    c.args.state.now.registers.items _ c.index.ensures.place c.requires c.in_ok-is_first-in-Register.ensures.added
    ∙ ap not c.if-not-is_first.true in
    rw c.in-Register.is (judged_twice c.args.remaining (texts c.args.names.now.items) c.args.state.now.words.items
    c.args.state.now.registers.items c.in-Register.core.now c.in-Register.reg (numeral_of c.in-Register.numeral) _
    c.in_ok-value-in-Register.ensures twice)

pub returns-in_ok-push-in-Register-clause-value : goal.returns-in_ok-push-in-Register-clause-value
returns-in_ok-push-in-Register-clause-value c =
    let once : list_any (λ r. gives c.in-Register.core.now c.in-Register.reg (given_of r)) c.args.state.now.registers.items ≡ false =
    given_unless_first c.in-Register.core.now c.in-Register.reg _ c.args.state.now.given.keys
    c.args.state.now.registers.items _ c.index.ensures.place c.requires c.in_ok-is_first-in-Register.ensures.added
    ∙ ap not c.if-not-is_first.false in
    rw c.in-Register.is (judged_new c.args.remaining (texts c.args.names.now.items) c.args.state.now.words.items
    c.args.state.now.registers.items c.push.new.self.items _ (numeral_of c.in-Register.numeral)
    c.in_ok-value-in-Register.ensures once refl c.in_ok-push-in-Register.ensures.items)
