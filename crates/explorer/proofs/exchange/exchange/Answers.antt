use Rattle.explorer.proofs.Vocabulary.{◌≡◌, ◌<◌, ℕ, List, length, map, swap, slice_set, slice_index_or, ap, sym, ◌∙◌, arith, length-set}
use Rattle.explorer.proofs.Vocabulary.{CoreState, State, idle, Entry, renamed, exchanged_entry, core_of_processor, Processor, map-at}
use Rattle.explorer.proofs.Vocabulary.{map-set}
use Rattle.explorer.proofs.Ending.{length-map}
use Rattle.explorer.proofs.Mapping.{maps-more, maps-all, maps-size, map-swap}
use Rattle.explorer.proofs.exchange.exchange.Goals as goal

pub loop-core-preserved : goal.loop-core-preserved
loop-core-preserved c =
    let k : ℕ = c.loop-core.core in
    let p : Processor = c.index_mut.result.now in
    let cores : List Processor = c.loop-core.state.cores.items in
    let n = c.loop-core.invariant.count in
    let l : k < length cores = let a = c.loop-core-test.true in
    let b = c.loop-core.auto.core-end in
    let d = c.len-core-end.ensures in
    omega (arith, n, a, b, d) in
    let held : List Entry → CoreState = λ z. record { place = p.place; registers = p.registers; pending = z } in
    let q : Processor = record { place = p.place; registers = p.registers; pending = c.loop-at.pending } in
    let here : p ≡ slice_index_or cores k p = c.index_mut.ensures.value in
    record {
      memory = c.loop-core.invariant.memory;
      count = length-set cores k _ ∙ n;
      mapped =
          maps-more (renamed c.args.pair) (map core_of_processor c.args.state.now.cores.items)
          (map core_of_processor cores) (map core_of_processor (slice_set cores k q)) k (held c.loop-at.pending.items)
          idle
          c.loop-core.invariant.mapped (let m = length-map cores in omega (arith, m, l)) (map-set cores k q)
          (ap held (maps-all (exchanged_entry c.args.pair) p.pending.items c.loop-at.pending.items c.loop-at.at
          c.loop-at.invariant
          (let a =
          c.loop-at-test.false in
          let b = c.loop-at.auto.at-end in
          let d = c.len-at-end.ensures in
          let e =
          maps-size (exchanged_entry c.args.pair) p.pending.items c.loop-at.pending.items c.loop-at.at c.loop-at.invariant in
          omega (arith, a, b, d, e)))
          ∙ ap (renamed c.args.pair) (sym (map-at cores k p l ∙ ap core_of_processor (sym here))));
    }

pub returns-clause-value : goal.returns-clause-value
returns-clause-value c =
    let cores : List Processor = c.loop-core.state.cores.items in
    let m = length-map cores in
    let all =
    maps-all (renamed c.args.pair) (map core_of_processor c.args.state.now.cores.items)
    (map core_of_processor cores) c.loop-core.core c.loop-core.invariant.mapped
    (let a =
    c.loop-core-test.false in
    let b = c.loop-core.auto.core-end in
    let d = c.len-core-end.ensures in
    let n = c.loop-core.invariant.count in
    omega (arith, a, b, d, n, m)) in
    ap (λ z. let s : State = record { memory = z.items; cores = map core_of_processor c.swap.new.self.items } in s) c.loop-core.invariant.memory
    ∙ ap (λ z. let s : State = record { memory = c.args.state.now.memory.items; cores = z } in s)
    (ap (map core_of_processor) c.swap.ensures.items ∙ map-swap cores c.from.result c.from-2.result ∙ ap (λ z. swap z c.from.result c.from-2.result) all
    ∙ ap (λ z. swap (map (renamed c.args.pair) (map core_of_processor c.args.state.now.cores.items)) z c.from-2.result) c.from.ensures
    ∙ ap (λ z. swap (map (renamed c.args.pair) (map core_of_processor c.args.state.now.cores.items)) c.args.pair.0 z) c.from-2.ensures)
