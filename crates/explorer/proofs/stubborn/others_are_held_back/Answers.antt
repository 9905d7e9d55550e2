use Rattle.explorer.proofs.Vocabulary.{◌≡◌, sym, subst, ◌∙◌, inl, inr, arith, lt-or, program_of, core_of, state_of_snapshot, IsHeldBack}
use Rattle.explorer.proofs.Vocabulary.{away, has_step, has_drain, set_of}
use Rattle.explorer.proofs.Absent.{avoids-absent}
use Rattle.explorer.proofs.stubborn.others_are_held_back.Goals as goal
use Rattle.explorer.proofs.stubborn.others_are_held_back.Goals.{else-other-core-via-then-other-core+else-not-is_held_back, else-other-core-via-else-other-core}

pub loop-other-preserved : goal.loop-other-preserved
loop-other-preserved c = λ j l n. elim (lt-or c.loop-other.other j) [
  | inl m ↦ c.loop-other.invariant j m n
  | inr m ↦ let q : j ≡ c.loop-other.other = omega (arith, l, m) in
      subst (λ z.
      IsHeldBack c.args.at.now.depth c.args.meeting.loads c.args.meeting.loc.0 (program_of c.args.at.now.test.now z)
      (core_of (state_of_snapshot c.args.at.now.state.now) z) (has_step (set_of c.args.picked.now) z)
      (has_drain (set_of c.args.picked.now) z))
      (sym q)
      (elim c.else-other-core.branch [
        | else-other-core-via-then-other-core+else-not-is_held_back w ↦ w.is_held_back.ensures w.if-not-is_held_back.false
        | else-other-core-via-else-other-core w ↦ absurd (n (q ∙ w.if-other-core.false))
      ])
]

pub returns : goal.returns
returns c = λ q j n. elim (lt-or c.loop-other.other j) [
  | inl l ↦ c.loop-other.invariant j l n
  | inr l ↦ let m = c.args.at.now.cores in let k = c.loop-other-test.false in let r = c.cores-other-end.ensures.value in
      away (avoids-absent c.args.meeting.loads c.args.meeting.loc.0 c.args.at.now.test.now c.args.at.now.state.now j
      (omega (arith, m, k, r, l)) (omega (arith, k, r, l)))
]
