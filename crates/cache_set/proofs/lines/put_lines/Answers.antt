use Rattle.cache_set.proofs.Vocabulary.{arith, ◌<◌, ◌≡◌, ℕ, [], length, ap, ◌∙◌, append-nil, drop_all, line_of_words, lines_of_words}
use Rattle.cache_set.proofs.PutLines.{put-next}
use Rattle.cache_set.proofs.lines.put_lines.Goals as goal

pub loop-line-preserved : goal.loop-line-preserved
loop-line-preserved c =
    let below : c.loop-line.line < length c.args.lines.now = omega arith in
    rw c.line_at.ensures
    (put-next (line_of_words c.from-size.result c.args.words.now) c.loop-line.line c.args.lines.now c.loop-line.lines [] below c.loop-line.invariant)

pub returns-clause-value : goal.returns-clause-value
returns-clause-value c =
    let all : c.loop-line.line ≡ length c.args.lines.now = omega arith in
    let size = c.from-size.ensures ∙ c.words.ensures.value in
    let put : c.loop-line.lines ≡ lines_of_words c.from-size.result c.args.words.now c.loop-line.line =
    rw (drop_all c.loop-line.line c.args.lines.now (omega arith), append-nil) at c.loop-line.invariant in
    put
    ∙ ap (λ (n : ℕ). lines_of_words c.from-size.result c.args.words.now n) all
    ∙ ap (λ (n : ℕ). lines_of_words n c.args.words.now (length c.args.lines.now)) size
