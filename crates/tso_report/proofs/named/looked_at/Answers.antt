use Rattle.tso_report.proofs.Vocabulary.{length, arith, is_looked_at, looked_at}
use Rattle.tso_report.proofs.Looking.{location-noted, registers-noted, all-noted, noted-known}
use Rattle.tso_report.proofs.named.looked_at.Goals as goal

pub loop-loc-init : goal.loop-loc-init
loop-loc-init c =
    registers-noted (is_looked_at c.args.test.now.condition) c.args.test.now c.new-list.result.items
    c.note_registers.new.list.items c.new-list.ensures.items c.in_ok-note_registers.ensures

pub loop-loc-preserved : goal.loop-loc-preserved
loop-loc-preserved c =
    let t = c.args.test.now in
    location-noted (is_looked_at t.condition) (looked_at t) c.loop-loc.list.items c.note.new.list.items c.loop-loc.loc (length t.locations)
    (omega (arith, c.loop-loc-test.true, c.locations-loc-end.ensures.value)) c.in_ok-note.ensures c.loop-loc.invariant

pub returns-clause-list : goal.returns-clause-list
returns-clause-list c =
    let t = c.args.test.now in
    all-noted (is_looked_at t.condition) t (looked_at t) c.loop-loc.list.items c.loop-loc.loc
    (omega (arith, c.loop-loc-test.false, c.locations-loc-end.ensures.value)) c.loop-loc.invariant

pub returns-clause-known : goal.returns-clause-known
returns-clause-known c = noted-known c.args.test.now c.loop-loc.list.items (returns-clause-list c)
