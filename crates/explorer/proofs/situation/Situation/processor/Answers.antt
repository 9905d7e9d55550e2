use Rattle.explorer.proofs.Vocabulary.{◌≡◌, ◌<◌, ℕ, length, slice_index_or, arith, sym, Processor, core-at}
use Rattle.explorer.proofs.situation.Situation.processor.Goals as goal

pub returns : goal.returns
returns c =
    let k : ℕ = c.args.core.0 in
    let p : Processor = c.index.result.now in
    let h1 = c.index.ensures in
    let h2 = c.from.ensures in
    let e : p ≡ slice_index_or c.args.self.now.state.now.cores.items k p = cc in
    let m = c.args.self.now.cores in
    let r = c.requires in
    let l : k < length c.args.self.now.state.now.cores.items = omega (arith, r, m) in
    sym (core-at c.args.self.now.test.now c.args.self.now.depth c.args.self.now.state.now k p l e)
