use Rattle.refutation_laws.proofs.Vocabulary.{◌≡◌, Bool, true, false, arith, refl, sb, n6, sb_candidate, n6_candidate, refutes, both_zero, own_last, Tso}
use Rattle.refutation_laws.proofs.worked.worked_refutations.Goals as goal

none : (b : Bool) → (b ≡ true → true ≡ false) → b ≡ false
none false f = refl
none true f = let z : true ≡ false = f refl in let w : ⊥ = cc in absurd w

pub returns-clause-sb_has_none : goal.returns-clause-sb_has_none
returns-clause-sb_has_none c = λ nodes. none (refutes Tso sb both_zero nodes)
    (λ h. c.refuted_claims_are_false.ensures.candidates Tso sb both_zero nodes sb_candidate (omega arith, omega arith) h
    c.worked_candidates.ensures.sb_is_allowed)

pub returns-clause-n6_has_none : goal.returns-clause-n6_has_none
returns-clause-n6_has_none c = λ nodes. none (refutes Tso n6 own_last nodes)
    (λ h. c.refuted_claims_are_false.ensures.candidates Tso n6 own_last nodes n6_candidate ((omega arith, omega arith), omega arith) h
    c.worked_candidates.ensures.n6_is_allowed)
