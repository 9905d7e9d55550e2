use Rattle.std.proofs.Common.{◌≡◌, ◌-◌, ◌≤◌, length, take}
use Rattle.std.specs.Io.KnownBytes.{Appends}
use Rattle.tso_io.proofs.streams.write_output.Given as goal

abbrev pub invariant-loop-at : goal.invariant-loop-at
invariant-loop-at g l = record {
  within : l.at ≤ length l.bytes;
  bytes : Appends (g.W.Write.contents l.initial.writer.0) (g.W.Write.contents l.writer.0) (take l.at l.bytes);
  faults : l.writer.1 ≡ l.initial.writer.1;
}

abbrev pub decreases-loop-at : goal.decreases-loop-at
decreases-loop-at g l = length l.bytes - l.at
