use Rattle.std.proofs.Common.{arith, length-append, length-take, ℕ, ◌++◌, ◌∙◌, take}
use Rattle.std.proofs.lemmas.List.{take-append-le}
use Rattle.counted_io.proofs.KnownLemmas.{consumes-more}
use Rattle.counted_io.proofs.streams.read_input.Goals as goal

pub returns-in_err-extend_from_slice-in-Ok-clause-most :
    goal.returns-in_err-extend_from_slice-in-Ok-clause-most
returns-in_err-extend_from_slice-in-Ok-clause-most g c = (
  c.loop-chunk.input.items ++ take c.in-Ok.n c.read.new.buf,
  consumes-more _ _ _ _ _ c.loop-chunk.invariant.bytes c.in-Ok.ensures.bytes.0,
  let b = c.in-Ok.ensures.bound in let m = c.min-room.ensures in let a = c.read.auto.buf in omega (arith, length-append {A = ℕ}, length-take {A = ℕ}),
)

pub loop-chunk-preserved : goal.loop-chunk-preserved
loop-chunk-preserved g c = record {
  bytes =
      rw
      (c.in_ok-extend_from_slice-in-Ok.ensures.items, take-append-le c.in-Ok.n c.read.new.buf _ c.in-Ok.ensures.bound.0)
      (consumes-more _ _ _ _ _ c.loop-chunk.invariant.bytes c.in-Ok.ensures.bytes.0);
  size =
      let l = c.in_ok-extend_from_slice-in-Ok.ensures.len in
      let b = c.in-Ok.ensures.bound in
      let m = c.min-room.ensures in
      let n = c.len-in-loop-chunk.ensures in
      omega (arith, l, length-take {A = ℕ});
  faults = c.in-Ok.ensures.failures ∙ c.loop-chunk.invariant.faults;
}
