use Rattle.std.proofs.Common.{arith, refl, length-drop, length-take, length, drop, ◌-◌, ◌∙◌}
use Rattle.tso_io.proofs.KnownLemmas.{appends-more, take-piece, not-zero}
use Rattle.tso_io.proofs.streams.write_output.Goals as goal

pub loop-at-preserved : goal.loop-at-preserved
loop-at-preserved g c = record {
  within =
      let b = c.in-Ok.ensures.bound in
      omega (
        arith,
        length-take (length c.args.bytes.now - c.loop-at.at) (drop c.loop-at.at c.args.bytes.now),
        length-drop c.loop-at.at c.args.bytes.now,
      );
  bytes =
      appends-more _ _ _ _ _ _ c.loop-at.invariant.bytes c.in-Ok.ensures.bytes
      (take-piece c.loop-at.at c.in-Ok.n c.args.bytes.now c.loop-at.invariant.within);
  faults = (rw (not-zero c.in-Ok.n c.in-Ok.n-test.1) at c.in-Ok.ensures.failures) ∙ c.loop-at.invariant.faults;
}

pub returns-clause-faults : goal.returns-clause-faults
returns-clause-faults g c = c.loop-at.invariant.faults

pub returns-in-Err-clause-faults : goal.returns-in-Err-clause-faults
returns-in-Err-clause-faults g c =
    let failed = c.in-Err.ensures.failures in
    let none_before = c.loop-at.invariant.faults in (refl, omega (arith, failed, none_before, c.requires))
