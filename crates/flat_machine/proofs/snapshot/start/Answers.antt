use Rattle.flat_machine.proofs.Vocabulary.{◌≡◌, ◌≤◌, ◌∙◌, length, length-append, map, ◌∷◌, [], refl, ap, arith, take_all, core_of_processor}
use Rattle.flat_machine.proofs.Starting.{one-core-more, all-begun}
use Rattle.flat_machine.proofs.snapshot.start.Goals as goal

pub loop-core-preserved : goal.loop-core-preserved
loop-core-preserved c =
    let e = c.in_ok-push-2.ensures in
    record {
      count =
          let n = c.loop-core.invariant.count in
          let m = ap length e.items in
          let v =
          length-append c.loop-core.cores.items (record { place = 0; registers = c.initial_registers.result; pending = c.new.result } ∷ []) in
          omega (arith, n, m, v);
      memory = c.loop-core.invariant.memory;
      cores = one-core-more c.args.test.now.programs c.args.test.now.registers c.loop-core.cores.items c.push-in-loop-core.new.self.items _ c.loop-core.core
          (omega arith) c.loop-core.invariant.cores e.items (let w = c.initial_registers.ensures in let q = c.new.ensures.items in rw (w, q) refl);
    }

pub loop-core-init : goal.loop-core-init
loop-core-init c =
    let words = c.args.test.now.words in
    let same : c.initial_words-word-items.result.now ≡ words = c.initial_words-word-items.ensures.value in
    let past : length words ≤ c.loop-word.word-index = omega (arith, ap length same, c.loop-word-test.false) in
    record {
      memory = c.loop-word.invariant ∙ take_all c.loop-word.word-index words past;
      cores = ap (map core_of_processor) c.new-cores.ensures.items;
      count = ap length c.new-cores.ensures.items;
    }

pub returns-clause-value : goal.returns-clause-value
returns-clause-value c =
    let past : length c.args.test.now.programs ≤ c.loop-core.core = omega arith in
    all-begun c.args.test.now c.loop-word.memory.items (map core_of_processor c.loop-core.cores.items) c.loop-core.core
    past c.loop-core.invariant.memory c.loop-core.invariant.cores
