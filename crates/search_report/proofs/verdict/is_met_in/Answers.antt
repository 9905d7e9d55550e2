use Rattle.search_report.proofs.Vocabulary.{kept_of}
use Rattle.search_report.proofs.Truths.{all-have}
use Rattle.search_report.proofs.verdict.is_met_in.Goals as goal

pub counts_of-held-requires : goal.counts_of-held-requires
counts_of-held-requires c =
    all-have c.args.test.now c.args.names.now c.in-Some.cond.now (kept_of c.args.outcomes.now.entries) c.in-Some.ensures.test c.in-Some.ensures.value c.requires
