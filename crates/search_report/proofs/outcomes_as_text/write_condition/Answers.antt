use Rattle.search_report.proofs.Vocabulary.{string_bytes, values_of, condition_of, kept_of, on_ok_weaker}
use Rattle.search_report.proofs.Truths.{all-have}
use Rattle.search_report.proofs.Writing.{condition-whole}
use Rattle.search_report.proofs.outcomes_as_text.write_condition.Goals as goal

pub counts_of-held-requires : goal.counts_of-held-requires
counts_of-held-requires c =
    all-have c.args.test.now c.args.names.now c.in-Some.cond.now (kept_of c.args.outcomes.now.entries) c.in-Some.ensures.test c.in-Some.ensures.value c.requires

pub write_numbers-requires : goal.write_numbers-requires
write_numbers-requires c =
    all-have c.args.test.now c.args.names.now c.in-Some.cond.now (kept_of c.args.outcomes.now.entries) c.in-Some.ensures.test c.in-Some.ensures.value c.requires

pub returns : goal.returns
unfolding lib.Utf8.encode
returns c =
    on_ok_weaker c.write_verdict.result
    (λ e. condition-whole c.args.test.now (condition_of c.in-Some.cond.now) c.args.test.now.condition (values_of (kept_of c.args.outcomes.now.entries))
    c.name.result.now c.counts_of-held.result.0 c.counts_of-held.result.1 c.is_met.result (string_bytes c.args.text.now)
    (string_bytes c.write_observed.new.text)
    (string_bytes c.push_str.new.self) (string_bytes c.write_numbers.new.text) (string_bytes c.push.new.self) (string_bytes c.write_verdict.new.text)
    c.in-Some.ensures.value c.name.ensures c.counts_of-held.ensures.held c.counts_of-held.ensures.failed c.is_met.ensures
    c.in_ok-write_observed.ensures c.in_ok-push_str.ensures.bytes c.in_ok-write_numbers.ensures c.in_ok-push.ensures.bytes e) c.write_verdict.ensures
