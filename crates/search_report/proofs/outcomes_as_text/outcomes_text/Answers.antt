use Rattle.search_report.proofs.Vocabulary.{string_bytes}
use Rattle.search_report.proofs.Writing.{text-whole}
use Rattle.search_report.proofs.outcomes_as_text.outcomes_text.Goals as goal

pub returns : goal.returns
returns c =
    text-whole c.args.test.now c.args.names.now c.args.depth c.len.result c.args.outcomes.now.entries
    (string_bytes c.new-text.result) (string_bytes c.write_test.new.text)
    (string_bytes c.write_outcomes.new.text) (string_bytes c.write_states.new.text) (string_bytes c.write_condition.new.text)
    c.requires.shown c.len.ensures.len c.new-text.ensures.bytes c.in_ok-write_test.ensures c.in_ok-write_outcomes.ensures c.in_ok-write_states.ensures
    c.in_ok-write_condition.ensures
