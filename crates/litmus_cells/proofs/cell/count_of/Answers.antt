use Rattle.std.proofs.Common.{◌+◌, ◌==◌, ap, sym, ◌∙◌}
use Rattle.std.proofs.lemmas.Bool.{eq-eqb, ne_eqb}
use Rattle.std.proofs.lemmas.List.{take_all}
use Rattle.std.proofs.lemmas.List.Sums.{count_by_more_yes, count_by_more_no}
use Rattle.litmus_cells.specs.Cells.{count_of}
use Rattle.litmus_cells.specs.declared.cell.CoreInstr.{CoreInstr}
use Rattle.litmus_cells.proofs.cell.count_of.Goals as goal
use Rattle.litmus_cells.proofs.cell.count_of.Goals.{then-i-core, else-i-core}

pub loop-i-preserved : goal.loop-i-preserved
loop-i-preserved c = elim c.if-i-core.branch [
  | then-i-core w ↦
      w.count-is ∙ ap (λ n. n + 1) c.loop-i.invariant
      ∙ sym (count_by_more_yes (λ (i : CoreInstr). i.core == c.args.core) c.args.instrs.now c.loop-i.i-index _ c.loop-i-test.true (eq-eqb _ _ w.if-i-core.true))
  | else-i-core w ↦
      w.count-is ∙ c.loop-i.invariant
      ∙ sym (count_by_more_no (λ (i : CoreInstr). i.core == c.args.core) c.args.instrs.now c.loop-i.i-index _ c.loop-i-test.true (ne_eqb _ _ w.if-i-core.false))
]

pub returns : goal.returns
returns c = c.loop-i.invariant ∙ ap (count_of c.args.core) (take_all c.loop-i.i-index c.args.instrs.now c.loop-i-test.false)
