use Rattle.refutation_laws.proofs.Vocabulary.{◌≡◌, Bool, List, true, false, not, Option, None, refl, subst, Litmus, Condition, truth_of}
use Rattle.refutation_laws.proofs.Vocabulary.{final_words, final_registers, Entry, asked_claim}
use Rattle.lemma_refutations.proofs.refuted_claims.refuted_questions_have_answers.Goals as goal

turned : (b : Bool) → not b ≡ false → b ≡ true
turned true h = refl
turned false h = let z : ⊥ = cc in absurd z

-- what is asked is false in the execution
asked-false : (t : Litmus) (order : List Entry) (d e : Option Condition) → d ≡ e
    → truth_of (final_registers t order) (final_words t order) (asked_claim d) ≡ false
    → truth_of (final_registers t order) (final_words t order) (asked_claim e) ≡ false
asked-false t order d e q h = subst (λ z. truth_of (final_registers t order) (final_words t order) (asked_claim z) ≡ false) q h

pub returns-clause-exists : goal.returns-clause-exists
returns-clause-exists c = λ model t claim lemmas nodes order test q h execution.
    asked-false t order t.condition _ q
    (c.refutations_by_lemmas_are_sound.ensures.executions model t (asked_claim t.condition) lemmas nodes order
    (c.refuted_questions_are_answered.ensures.names t test) h execution)

pub returns-clause-not_exists : goal.returns-clause-not_exists
returns-clause-not_exists c = λ model t claim lemmas nodes order test q h execution.
    asked-false t order t.condition _ q
    (c.refutations_by_lemmas_are_sound.ensures.executions model t (asked_claim t.condition) lemmas nodes order
    (c.refuted_questions_are_answered.ensures.names t test) h execution)

pub returns-clause-forall : goal.returns-clause-forall
returns-clause-forall c = λ model t claim lemmas nodes order test q h execution.
    turned (truth_of (final_registers t order) (final_words t order) claim)
    (asked-false t order t.condition _ q
    (c.refutations_by_lemmas_are_sound.ensures.executions model t (asked_claim t.condition) lemmas nodes order
    (c.refuted_questions_are_answered.ensures.names t test) h execution))

pub returns-clause-unasked : goal.returns-clause-unasked
returns-clause-unasked c = λ model t lemmas nodes order test q h execution.
    never (asked-false t order t.condition None q
    (c.refutations_by_lemmas_are_sound.ensures.executions model t (asked_claim t.condition) lemmas nodes order
    (c.refuted_questions_are_answered.ensures.names t test) h execution))
  where
    never : true ≡ false → ⊥
    never e = cc
