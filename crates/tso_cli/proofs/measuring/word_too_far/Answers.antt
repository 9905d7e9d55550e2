use Rattle.tso_cli.proofs.TraceLengths.{is-measured}
use Rattle.tso_cli.proofs.measuring.word_too_far.Goals as goal

pub returns : goal.returns
returns c = λ choices spelled ending.
    let found = rw c.cores.ensures.value at c.word_beyond.ensures.found in
    let there = rw c.cores.ensures.value at c.word_beyond.ensures.there in
    is-measured c.args.setup.now.test.now c.args.setup.now.protocol c.args.setup.now.config choices c.args.ending.now
    c.args.text.now c.used_in.result c.word_beyond.result c.used_in.ensures ending found (there choices spelled)
