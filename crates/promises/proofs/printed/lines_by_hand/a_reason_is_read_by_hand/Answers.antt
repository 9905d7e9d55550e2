use Rattle.promises.proofs.printed.lines_by_hand.a_reason_is_read_by_hand.Goals as goal

pub returns-clause-text : goal.returns-clause-text
returns-clause-text c = λ model t lemmas tree refuted.
    let is = c.printed_lines_refute.ensures.printed model t lemmas tree refuted in (is.lines, is.refute, is.text)

pub returns-clause-object : goal.returns-clause-object
returns-clause-object c = λ model t lemmas tree refuted.
    let is = c.printed_lines_refute.ensures.printed model t lemmas tree refuted in (is.lines, is.refute, is.object)

pub returns-clause-executions : goal.returns-clause-executions
returns-clause-executions c = λ model t claim lines order names read execution.
    let is = c.printed_lines_refute.ensures.read model t claim lines read in
    c.refutations_by_lemmas_are_sound.ensures.executions model t claim is.lemmas is.tree order names is.refuted execution
