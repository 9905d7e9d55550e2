use Rattle.tso_report.proofs.Vocabulary.{◌∙◌, ◌++◌, ap, string_bytes, is_some, sweep_line}
use Rattle.tso_report.proofs.Tallies.{text-of-tally}
use Rattle.tso_report.proofs.tally.Tally.text.Goals as goal

pub returns : goal.returns
returns c =
    let t = c.self.inside.test.now in
    let counters = c.self.inside.counters in
    text-of-tally t counters c.args.self.now (is_some t.condition) c.args.from c.args.length
    (string_bytes c.write_sweep.new.text) (string_bytes c.write_states.new.text) (string_bytes c.write_observation.new.text)
    c.self.view_is c.self.invariant.1
    (c.in_ok-write_sweep.ensures ∙ ap (λ text. text ++ sweep_line counters.ended counters.unfinished c.args.from c.args.length) c.new-text.ensures.bytes)
    c.in_ok-write_states.ensures c.in_ok-write_observation.ensures
