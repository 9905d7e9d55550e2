use Rattle.tso_cli.proofs.Vocabulary.{subst, sym, IsAnswer, Headline}
use Rattle.counted_io.proofs.KnownLemmas.{input-is}
use Rattle.tso_cli.proofs.CommandLemmas.{answer-read, headline-read}
use Rattle.tso_cli.proofs.command.answer_command.Goals as goal

pub returns-clause-exact : goal.returns-clause-exact
returns-clause-exact g c =
    let input = g.R.Read.remaining c.args.reader.now.0 in (
      c.as_bytes.result.now,
      subst (λ out. IsAnswer c.args.settings.now input out c.in_ok-answer.answer.status) (sym c.as_bytes.ensures.value)
          (answer-read c.args.settings.now input c.deref.result.now _ _
          (rw c.deref.ensures.value
          (rw c.most_read.ensures at (input-is _ _ _ _ c.in_ok-input.ensures.bytes c.in_ok-input.ensures.size c.in_ok-input.ensures.end)))
          c.in_ok-answer.ensures.exact),
      c.in_ok-write_output.ensures.ok,
    )

pub returns-clause-headline : goal.returns-clause-headline
returns-clause-headline g c =
    let input = g.R.Read.remaining c.args.reader.now.0 in (
      c.as_bytes.result.now,
      subst (λ out. Headline c.args.settings.now input out) (sym c.as_bytes.ensures.value)
          (headline-read c.args.settings.now input c.deref.result.now _
          (rw c.deref.ensures.value
          (rw c.most_read.ensures at (input-is _ _ _ _ c.in_ok-input.ensures.bytes c.in_ok-input.ensures.size c.in_ok-input.ensures.end)))
          c.in_ok-answer.ensures.headline),
      c.in_ok-write_output.ensures.ok,
    )

pub returns-in_err-write_output-clause-writer_fault : goal.returns-in_err-write_output-clause-writer_fault
returns-in_err-write_output-clause-writer_fault g c =
    let input = g.R.Read.remaining c.args.reader.now.0 in
    λ rose. (
      c.in_ok-answer.answer.status,
      c.as_bytes.result.now,
      subst (λ out. IsAnswer c.args.settings.now input out c.in_ok-answer.answer.status) (sym c.as_bytes.ensures.value)
          (answer-read c.args.settings.now input c.deref.result.now _ _
          (rw c.deref.ensures.value
          (rw c.most_read.ensures at (input-is _ _ _ _ c.in_ok-input.ensures.bytes c.in_ok-input.ensures.size c.in_ok-input.ensures.end)))
          c.in_ok-answer.ensures.exact),
      c.write_output.ensures.beginning,
    )
