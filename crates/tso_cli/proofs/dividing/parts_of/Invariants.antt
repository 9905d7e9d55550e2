use Rattle.std.proofs.Common.{◌≡◌, ◌≤◌, ◌-◌, ◌++◌, length, take, drop}
use Rattle.tso_cli.specs.Dividing as words
use Rattle.tso_cli.specs.inner.Dividing.{begins_line}
use Rattle.tso_cli.proofs.dividing.parts_of.Given as goal

-- the parts of the whole are those of what is left, after what was passed
abbrev pub invariant-loop-sign : goal.invariant-loop-sign
invariant-loop-sign l = record {
  within : l.at ≤ length l.input;
  test : (words.parts_of l.input).test ≡ take l.at l.input ++ (words.parts_from (begins_line (take l.at l.input)) (drop l.at l.input)).test;
  rest : (words.parts_of l.input).rest ≡ (words.parts_from (begins_line (take l.at l.input)) (drop l.at l.input)).rest;
}

abbrev pub decreases-loop-sign : goal.decreases-loop-sign
decreases-loop-sign l = length l.input - l.at
