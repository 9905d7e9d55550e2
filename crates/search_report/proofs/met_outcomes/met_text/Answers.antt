use Rattle.search_report.proofs.Vocabulary.{string_bytes}
use Rattle.search_report.proofs.MeetingLimit.{met-whole}
use Rattle.search_report.proofs.met_outcomes.met_text.Goals as goal

pub returns : goal.returns
returns c =
    met-whole c.args.test.now c.args.names.now c.args.limit c.len.result c.args.is_met c.args.outcomes.now.entries
    (string_bytes c.new-text.result) (string_bytes c.write_limit.new.text)
    (string_bytes c.write_met.new.text) (string_bytes c.write_states.new.text) (string_bytes c.write_decided.new.text)
    c.requires.shown c.requires.met c.len.ensures.len c.new-text.ensures.bytes c.in_ok-write_limit.ensures
    c.in_ok-write_met.ensures c.in_ok-write_states.ensures
    c.in_ok-write_decided.ensures
