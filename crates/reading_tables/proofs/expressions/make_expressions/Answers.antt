use Rattle.std.proofs.Common.{rules}
use Rattle.reading_tables.proofs.Vocabulary.{◌≡◌, ◌∙◌, List, ap, sym, subst, length, map}
use Rattle.possible_reads.specs.Expressions.{Expression, registers_at_end, first_registers}
use Rattle.std.specs.Prelude.{ℕ, [], slice_index_or}
use Rattle.reading_tables.specs.declared.expressions.Held.{Held}
use Rattle.reading_tables.specs.inner.Told.{HaveBeenMade, held_of, written_of, all_made, told_writes}
use Rattle.reading_tables.proofs.Walking.{core-more, inside-more, each-more}
use Rattle.reading_tables.proofs.expressions.make_expressions.Goals as goal

pub run_program-requires-clause-walk : goal.run_program-requires-clause-walk
run_program-requires-clause-walk c = record {
  registers = c.first_registers.ensures.made (length c.loop-number.makings.items);
  written = c.loop-number.invariant.made;
}

pub loop-number-preserved : goal.loop-number-preserved
loop-number-preserved c =
    let now = c.loop-number.makings.items in
    let new = c.run_program.new.walk.makings.items in
    let number = c.loop-number.number in
    let rows = c.loop-number.registers.items in
    let row = c.run_program.new.walk.registers in
    let programs = c.args.test.now.programs in
    let due : ℕ → List Expression = λ core. registers_at_end core 0 (slice_index_or programs core []) (first_registers c.args.test.now.registers core) in
    record {
      written =
          core-more programs c.args.test.now.registers number (map (held_of (all_made now)) c.first_registers.result)
          (map (written_of (all_made now)) c.loop-number.written.items) (told_writes c.run_program.new.walk) _ (search rules)
          (c.first_registers.ensures.held (all_made now)) c.in_ok-run_program.ensures.written c.loop-number.invariant.written;
      made = c.in_ok-run_program.ensures.walk.written;
      count = search rules;
      each = λ core l. subst (λ (rs : List (List Held)). map (held_of (all_made new)) (slice_index_or rs core []) ≡ due core) (sym c.in_ok-push.ensures.items)
          (each-more now new c.in_ok-run_program.ensures.more rows row number core c.loop-number.invariant.count due l
          (c.loop-number.invariant.inside core) (c.loop-number.invariant.each core)
          (c.in_ok-run_program.ensures.registers
          ∙ ap (registers_at_end number 0 (slice_index_or programs number [])) (c.first_registers.ensures.held (all_made now))));
      inside = λ core l. subst (λ (rs : List (List Held)). HaveBeenMade (length new) (slice_index_or rs core [])) (sym c.in_ok-push.ensures.items)
          (inside-more now new c.in_ok-run_program.ensures.more rows row number core c.loop-number.invariant.count l
          (c.loop-number.invariant.inside core) c.in_ok-run_program.ensures.walk.registers);
    }
