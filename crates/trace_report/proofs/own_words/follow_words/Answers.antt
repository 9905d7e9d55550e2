use Rattle.trace_report.proofs.Vocabulary.{◌≤◌, ◌<◌, ◌∙◌, length, ap, refl, arith, unwrap_or, own_words}
use Rattle.trace_report.proofs.Owning.{one-word, all-words}
use Rattle.trace_report.proofs.own_words.follow_words.Goals as goal

pub loop-loc-preserved : goal.loop-loc-preserved
loop-loc-preserved g c =
    let m = c.args.machine.now in
    let memory = c.loop-loc.memory in
    let there : c.loop-loc.loc < length c.args.test.now.locations = omega arith in
    let room : c.loop-loc.loc < length memory = omega arith in
    let seen : c.loop-loc.loc < length m.state.flat.memory = omega arith in
    one-word m c.args.words (length m.test.programs) c.loop-loc.loc c.is_newer_in-is_newer.result memory
    (own_words m c.args.memory.now) c.unwrap_or-seen.result c.memory_word.result
    room seen c.requires.looked.words_are refl c.is_newer_in-is_newer.ensures
    (c.unwrap_or-seen.ensures ∙ ap (λ o. unwrap_or o 0) c.seen.ensures) c.memory_word.ensures c.loop-loc.invariant

pub returns-clause-words : goal.returns-clause-words
returns-clause-words g c =
    let past : length c.loop-loc.memory ≤ c.loop-loc.loc = omega arith in
    all-words c.args.machine.now c.loop-loc.loc c.loop-loc.memory (own_words c.args.machine.now c.args.memory.now) past c.loop-loc.invariant
