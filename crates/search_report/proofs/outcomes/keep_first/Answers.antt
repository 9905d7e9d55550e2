use Rattle.search_report.proofs.Keeping.{first-kept, later-left}
use Rattle.search_report.proofs.outcomes.keep_first.Goals as goal

pub returns-in_ok-insert : goal.returns-in_ok-insert
returns-in_ok-insert c =
    first-kept c.args.values c.args.state c.args.outcomes.now.entries c.insert.new.self.entries c.contains_key.result
    c.contains_key.ensures c.if-not-contains_key.true c.in_ok-insert.ensures.entries

pub returns-else-not-contains_key : goal.returns-else-not-contains_key
returns-else-not-contains_key c =
    later-left c.args.values c.args.state c.args.outcomes.now.entries c.contains_key.result c.contains_key.ensures c.if-not-contains_key.false
