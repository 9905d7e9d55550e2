use Rattle.trace_report.proofs.Vocabulary.{◌≤◌, length, arith, min, changes_in}
use Rattle.trace_report.proofs.Listing.{all-changes}
use Rattle.trace_report.proofs.states.changes_in.Goals as goal

pub returns : goal.returns
returns c =
    let past : min (length c.args.before.now) (length c.args.after.now) ≤ c.loop-at.at = omega arith in
    all-changes c.args.before.now c.args.after.now c.loop-at.at c.loop-at.changes.items (changes_in c.args.before.now c.args.after.now) past c.loop-at.invariant
