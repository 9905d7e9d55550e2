use Rattle.cache_set.proofs.Vocabulary.{arith, ◌≡◌, ◌≤◌, ◌∙◌, ◌++◌, List, length, take, ap, append-nil, take_all, drop_all}
use Rattle.cache_set.proofs.Vocabulary.{length-map-range_with_len, Words, line_of_words, lines_of_words}
use Rattle.cache_set.proofs.lines.lines_of.Goals as goal

pub returns-clause-value : goal.returns-clause-value
returns-clause-value c =
    let put = c.put_lines.new.lines in
    let room = c.in_ok-lines.lines.len in
    let size : length put ≡ length c.deref_mut.result.now =
    ap length c.put_lines.ensures.value
    ∙ length-map-range_with_len (line_of_words c.args.shape.words c.args.words.now) 0 (length c.deref_mut.result.now) in
    let full : length put ≡ room = size ∙ c.deref_mut.ensures.len in
    let all : length c.in_ok-lines.lines.items ≤ length put = rw (← c.deref_mut.ensures.value) (omega arith) in
    ap (λ (rest : List Words). take room (put ++ rest)) (drop_all (length put) c.in_ok-lines.lines.items all)
    ∙ ap (take room) (append-nil put)
    ∙ take_all room put (omega arith)
    ∙ c.put_lines.ensures.value
    ∙ ap (lines_of_words c.args.shape.words c.args.words.now)
    (c.deref_mut.ensures.len
    ∙ c.in_ok-lines.ensures.len
    ∙ rw (c.from.ensures, c.words.ensures.value) at c.div_ceil-count.ensures)
