use Rattle.explorer.proofs.Vocabulary.{◌≡◌, ◌∙◌, true, sym, subst, inl, inr, length, step, drain, arith, lt-or, state_of_snapshot, set_of}
use Rattle.explorer.proofs.Vocabulary.{has_step, has_drain, IsApartStep, IsApartDrain, rules}
use Rattle.explorer.proofs.Marks.{none-beyond}
use Rattle.explorer.proofs.stubborn.is_stubborn.Goals as goal
use Rattle.explorer.proofs.stubborn.is_stubborn.Goals.{then-is_marked, then-is_marked-via-then-is_marked}
use Rattle.explorer.proofs.stubborn.is_stubborn.Goals.{then-is_marked-via-else-is_marked+then-is_marked-2, else-is_marked+else-is_marked-2}

pub loop-core-preserved : goal.loop-core-preserved
loop-core-preserved c = record {
  apart = λ k m. elim (lt-or c.loop-core.core k) [
    | inl n ↦ c.loop-core.invariant.apart k n
    | inr n ↦ let q : k ≡ c.loop-core.core = omega (arith, m, n) in
        subst (λ z.
        (has_step (set_of c.args.picked.now) z ≡ true
        → IsApartStep c.args.at.now.depth c.args.at.now.test.now (set_of c.args.picked.now) (state_of_snapshot c.args.at.now.state.now) z)
        × (has_drain (set_of c.args.picked.now) z ≡ true
        → IsApartDrain c.args.at.now.depth c.args.at.now.test.now (set_of c.args.picked.now) (state_of_snapshot c.args.at.now.state.now) z))
        (sym q)
        (c.is_step_fine.ensures c.if-not-is_step_fine.false, c.is_drain_fine.ensures c.if-not-is_drain_fine.false)
  ];
  one = λ q. elim c.if-is_marked.branch [
    | then-is_marked w ↦ elim w.then-is_marked.branch [
      | then-is_marked-via-then-is_marked v ↦ (step c.loop-core.core, sym c.is_marked.ensures ∙ v.if-is_marked.true)
      | then-is_marked-via-else-is_marked+then-is_marked-2 v ↦ (drain c.loop-core.core, sym v.is_marked-else-is_marked.ensures ∙ v.if-is_marked-2.true)
    ]
    | else-is_marked+else-is_marked-2 w ↦ c.loop-core.invariant.one (sym w.has_one-is ∙ q)
  ];
}

pub returns : goal.returns
returns c = λ one.
    let e = c.loop-core-test.false in
    let steps : length c.args.picked.now.steps ≡ 8 = search rules in
    let drains : length c.args.picked.now.drains ≡ 8 = search rules in
    record {
      steps_apart = λ k q. elim (lt-or c.loop-core.core k) [
        | inl n ↦ (c.loop-core.invariant.apart k n).0 q
        | inr n ↦ absurd (let none = none-beyond c.args.picked.now.steps k (omega (arith, steps, e, n)) in let z : ⊥ = cc in z)
      ];
      drains_apart = λ k q. elim (lt-or c.loop-core.core k) [
        | inl n ↦ (c.loop-core.invariant.apart k n).1 q
        | inr n ↦ absurd (let none = none-beyond c.args.picked.now.drains k (omega (arith, drains, e, n)) in let z : ⊥ = cc in z)
      ];
      one = c.loop-core.invariant.one one;
    }
