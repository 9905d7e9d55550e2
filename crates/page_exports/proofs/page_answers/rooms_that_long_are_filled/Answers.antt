use Rattle.std.proofs.Common.{length}
use Rattle.page_exports.proofs.Filled.{is-whole}
use Rattle.page_exports.proofs.page_answers.rooms_that_long_are_filled.Goals as goal

pub returns : goal.returns
returns c = λ two five fits hint_fits.
    let told = c.page_answer.new.told in
    c.page_answer.ensures.answered
    (is-whole told.is_whole told.status told.length told.hint_length (length c.args.output.now)
    (length c.args.hint_output.now) c.page_answer.ensures.whole two five fits hint_fits)
