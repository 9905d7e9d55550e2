use Rattle.lemma_refutations.proofs.Vocabulary.{◌≡◌, Bool, true, false, refl, Tso, refutes}
use Rattle.refutation_laws.proofs.Vocabulary.{arith, sb, sb_candidate, both_zero}
use Rattle.lemma_refutations.proofs.worked.worked_refutations_by_lemmas.Goals as goal

none : (b : Bool) → (b ≡ true → true ≡ false) → b ≡ false
none false f = refl
none true f = let z : true ≡ false = f refl in let w : ⊥ = cc in absurd w

pub returns-clause-sb_has_none : goal.returns-clause-sb_has_none
returns-clause-sb_has_none c = λ lemmas tree. none (refutes Tso sb both_zero lemmas tree)
    (λ h. c.refutations_by_lemmas_are_sound.ensures.candidates Tso sb both_zero lemmas tree sb_candidate (omega arith, omega arith) h
    c.worked_candidates.ensures.sb_is_allowed)
