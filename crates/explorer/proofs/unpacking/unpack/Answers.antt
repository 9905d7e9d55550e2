use Rattle.explorer.proofs.Vocabulary.{◌≡◌, length, map, ap, sym, ◌∙◌, arith, core_of_processor, State, length-set, state_of_bytes, read_core, read_list}
use Rattle.explorer.proofs.ReadBack.{core-read, next-core, cores-read, state-cores, state-read}
use Rattle.explorer.proofs.unpacking.unpack.Goals as goal

pub loop-at-preserved : goal.loop-at-preserved
loop-at-preserved c =
    let l = c.loop-at-test.true in
    let n = c.len-at-end.ensures in
    let m = c.loop-at.invariant.count in
    record {
      memory = c.loop-at.invariant.memory;
      read = next-core c.loop-at.at _ _ _ c.loop-at.state.cores.items _ (omega (arith, l, n, m)) c.loop-at.invariant.read
          (core-read c.loop-at.rest.now _ _ _ _ _ _ c.take_byte-place.ensures c.unpack_registers-later.ensures c.in_ok-rest.ensures);
      count = length-set c.loop-at.state.cores.items c.loop-at.at _ ∙ c.loop-at.invariant.count;
    }

pub returns-clause-value : goal.returns-clause-value
returns-clause-value c =
    let l = c.loop-at-test.false in
    let e = c.loop-at.auto.at-end in
    let n = c.len-at-end.ensures in
    let k = c.args.state.now.cores.ok.0 in
    let m = c.loop-at.invariant.count in
    let bytes = c.in_ok-bytes.bytes.now in
    let count =
    c.requires
    ∙ ap (λ z. length (state_of_bytes z).cores) (sym c.deref.ensures.value)
    ∙ ap length (state-cores c.deref.result.now _ _ c.in_ok-bytes.ensures) in
    let cores : map core_of_processor c.loop-at.state.cores.items ≡ (read_list read_core bytes).0 =
    cores-read bytes _ _ _ c.loop-at.at c.loop-at.state.cores.items c.take_number.ensures (m ∙ count) (omega (arith, l, e, n, k, m)) c.loop-at.invariant.read in
    ap (λ z. let s : State = record { memory = z.items; cores = map core_of_processor c.loop-at.state.cores.items } in s) c.loop-at.invariant.memory
    ∙ state-read c.deref.result.now _ _ _ c.in_ok-bytes.ensures cores ∙ ap state_of_bytes c.deref.ensures.value

pub returns-clause-cores : goal.returns-clause-cores
returns-clause-cores c = c.loop-at.invariant.count
