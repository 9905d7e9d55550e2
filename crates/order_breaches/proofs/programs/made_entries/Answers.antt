use Rattle.order_breaches.proofs.Vocabulary.{◌<◌, ◌≤◌, ◌++◌, length, take, drop, ap, sym, ◌∙◌, subst, refl, made_reading}
use Rattle.order_breaches.proofs.Making.{made-all, made-more, reads-here, reads-behind}
use Rattle.order_breaches.proofs.programs.made_entries.Goals as goal

pub loop-number-init : goal.loop-number-init
loop-number-init c = record {
  entries = ap (λ es. es ++ made_reading 0 c.args.test.now.programs c.args.test.now.registers c.args.reads.now) (sym c.new-entries.ensures.items);
  enough = c.requires;
}

pub split_at-requires : goal.split_at-requires
split_at-requires c =
    reads-here c.loop-number.number c.args.test.now.programs c.args.test.now.registers
    (subst (λ n. c.loop-number.number < n) c.cores-number-end.ensures.value c.loop-number-test.true)
    c.read_count-count.result (length c.loop-number.left.now) c.read_count-count.ensures c.loop-number.invariant.enough

pub loop-number-preserved : goal.loop-number-preserved
loop-number-preserved c =
    let t = c.args.test.now in
    let core = c.loop-number.number in
    let within = subst (λ n. core < n) c.cores-number-end.ensures.value c.loop-number-test.true in
    let count = c.read_count-count.ensures in
    record {
      entries = made-more core t.programs t.registers within c.loop-number.left.now c.split_at.result.0.now c.split_at.result.1.now
          (c.split_at.ensures.front ∙ ap (λ n. take n c.loop-number.left.now) count) (c.split_at.ensures.back ∙ ap (λ n. drop n c.loop-number.left.now) count)
          _ c.loop-number.entries.items c.in_ok-thread.thread.entries.items c.extend_from_slice.new.self.items c.in_ok-thread.ensures.entries
          (c.in_ok-extend_from_slice.ensures.items ∙ ap (λ es. c.loop-number.entries.items ++ es) c.deref.ensures.value) c.loop-number.invariant.entries;
      enough =
          reads-behind core t.programs t.registers within c.read_count-count.result (length c.loop-number.left.now)
          (length c.split_at.result.1.now) count c.split_at.ensures.back_len c.loop-number.invariant.enough;
    }

pub returns : goal.returns
returns c =
    made-all (λ ps. made_reading c.loop-number.number ps c.args.test.now.registers c.loop-number.left.now)
    c.args.test.now.programs c.loop-number.number refl
    (subst (λ n. n ≤ c.loop-number.number) c.cores-number-end.ensures.value c.loop-number-test.false)
    _ c.loop-number.entries.items c.loop-number.invariant.entries
