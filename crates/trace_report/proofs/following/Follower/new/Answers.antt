use Rattle.trace_report.proofs.Vocabulary.{◌≡◌, ◌∙◌, length, ap, rules}
use Rattle.trace_report.proofs.Traced.{traced-first}
use Rattle.trace_report.proofs.following.Follower.new.Goals as goal

pub returns-clause-can : goal.returns-clause-can
returns-clause-can c = λ table.
    let words : c.in_ok-memory.memory.items ≡ c.args.test.now.words = search rules in (
      traced-first table c.args.config c.args.test.now,
      record { each = c.know_limits.ensures.words_given; own_each = ap length words ∙ c.know_limits.ensures.words_given },
    )
