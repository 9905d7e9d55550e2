use Rattle.tso_report.proofs.Vocabulary.{◌+◌, ◌++◌, length, drop, drop_more, map, filter, ap, arith, all_registers, is_looked_at}
use Rattle.tso_report.proofs.Vocabulary.{named_register, named_registers}
use Rattle.tso_report.proofs.Looking.{core-noted, register-noted, registers-over}
use Rattle.tso_report.proofs.named.note_registers.Goals as goal

pub loop-reg-preserved : goal.loop-reg-preserved
unfolding all_registers
loop-reg-preserved c =
    let p = is_looked_at c.args.test.now.condition in
    let name = named_register c.loop-core.core in
    let i = c.loop-reg.reg-index in
    register-noted p
    (c.loop-core.list.items ++ filter p (map name all_registers)) c.loop-reg.list.items c.note.new.list.items _
    (map name (drop (i + 1) all_registers)) (map name (drop i all_registers))
    c.in_ok-note.ensures (ap (map name) (drop_more all_registers i _ c.loop-reg-test.true)) c.loop-reg.invariant

pub loop-core-preserved : goal.loop-core-preserved
unfolding all_registers
loop-core-preserved c =
    let p = is_looked_at c.args.test.now.condition in
    let n = length c.args.test.now.programs in
    core-noted p (c.args.list.now.items ++ filter p (named_registers 0 n)) c.loop-core.list.items c.loop-reg.list.items c.loop-core.core n
    (omega (arith, c.loop-core-test.true, c.cores-core-end.ensures.value))
    (registers-over p c.loop-reg.list.items _ c.loop-core.core c.loop-reg.reg-index all_registers c.loop-reg-test.false c.loop-reg.invariant)
    c.loop-core.invariant
