use Rattle.litmus_reader.proofs.Vocabulary.{sym, ◌∙◌, piece_of}
use Rattle.litmus_reader.proofs.SectionSteps.{token_there, opened_there, opened_other, opened_missing, place_there}
use Rattle.litmus_reader.proofs.section.after_opening.Goals as goal

pub returns-then-is_symbol-clause-value : goal.returns-then-is_symbol-clause-value
returns-then-is_symbol-clause-value c =
    opened_there c.args.set c.args.symbol c.args.end c.args.text.now c.in-Ok.rest.now (piece_of c.in-Ok.first)
    c.in-Ok.ensures.value (sym c.is_symbol.ensures ∙ c.if-is_symbol.true)

pub returns-then-is_symbol-clause-place : goal.returns-then-is_symbol-clause-place
returns-then-is_symbol-clause-place c = place_there c.args.set c.args.text.now c.in-Ok.rest.now (piece_of c.in-Ok.first) c.in-Ok.ensures.value

pub returns-then-is_symbol-clause-stop : goal.returns-then-is_symbol-clause-stop
returns-then-is_symbol-clause-stop c = sym (token_there c.args.set c.args.text.now c.in-Ok.rest.now (piece_of c.in-Ok.first) c.in-Ok.ensures.value).stop_kept

pub returns-else-is_symbol-clause-value : goal.returns-else-is_symbol-clause-value
returns-else-is_symbol-clause-value c =
    opened_other c.args.set c.args.symbol c.args.end c.args.text.now c.in-Ok.rest.now (piece_of c.in-Ok.first)
    c.in-Ok.ensures.value (sym c.is_symbol.ensures ∙ c.if-is_symbol.false)

pub returns-in-Err-clause-value : goal.returns-in-Err-clause-value
returns-in-Err-clause-value c = rw c.at_stop.ensures (opened_missing c.args.set c.args.symbol c.args.end c.args.text.now c.in-Err.stop c.in-Err.ensures.value)
