use Rattle.litmus_reader.proofs.Vocabulary.{◌≡◌, ◌<◌, [], sym, ◌∙◌, get_or, arith, err_from_is_err_and, length-set, get_or_read, subst, ℕ}
use Rattle.litmus_reader.proofs.GrammarAtoms.{core_ok}
use Rattle.litmus_reader.proofs.Listed.{registers_go_on, registers_fail, registers_done}
use Rattle.litmus_reader.proofs.initial.registers_of.Goals as goal

pub returns-in_err-core : goal.returns-in_err-core
returns-in_err-core c =
    let p = err_from_is_err_and c.from_residual-in_err-core.result c.from_residual-in_err-core.ensures.1 in
    rw (p.1, p.2)
    (registers_fail c.in_err-core.field-0.0 c.args.cores c.loop-word.word-index c.loop-word.registers.items
    c.args.given.now _ _ c.loop-word-test.true (sym c.in_err-core.ensures) c.loop-word.invariant.same)

pub loop-word-preserved : goal.loop-word-preserved
loop-word-preserved c =
    let found = core_ok c.args.cores _ _ c.in_ok-core.core.0 (sym c.in_ok-core.ensures) in
    let below : c.in_ok-core.core.0 < c.args.cores = subst (λ (n : ℕ). n < c.args.cores) found.0 found.1 in
    let old : c.index_mut.result.now ≡ get_or c.loop-word.registers.items c.in_ok-core.core.0 [] =
    get_or_read c.loop-word.registers.items _ _ (omega (
      arith,
      below,
      c.loop-word.invariant.each,
    )) c.index_mut.ensures.value [] in
    record {
      same =
          rw (old, c.index.ensures.place)
          (registers_go_on c.args.cores c.loop-word.word-index c.in_ok-core.core.0 c.loop-word.registers.items
          c.args.given.now _ _ c.loop-word-test.true (sym c.in_ok-core.ensures) c.loop-word.invariant.same);
      each = length-set c.loop-word.registers.items c.in_ok-core.core.0 _ ∙ c.loop-word.invariant.each;
    }

pub returns : goal.returns
returns c = registers_done c.args.cores c.loop-word.word-index c.loop-word.registers.items c.args.given.now _ c.loop-word-test.false c.loop-word.invariant.same
