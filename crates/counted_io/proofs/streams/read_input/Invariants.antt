use Rattle.std.proofs.Common.{◌≡◌, ◌-◌, ◌≤◌, vec_len}
use Rattle.std.specs.Io.KnownBytes.{Consumes}
use Rattle.counted_io.proofs.streams.read_input.Given as goal

abbrev pub invariant-loop-chunk : goal.invariant-loop-chunk
invariant-loop-chunk g l = record {
  bytes : Consumes (g.R.Read.remaining l.initial.reader.0) (g.R.Read.remaining l.reader.0) l.input.items;
  size : vec_len l.input ≤ l.initial.most;
  faults : l.reader.1 ≡ l.initial.reader.1;
}

abbrev pub decreases-loop-chunk : goal.decreases-loop-chunk
decreases-loop-chunk g l = l.initial.most - vec_len l.input
