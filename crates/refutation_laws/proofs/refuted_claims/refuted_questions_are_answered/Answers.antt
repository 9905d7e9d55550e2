use Rattle.refutation_laws.proofs.Vocabulary.{◌≡◌, ℕ, Bool, List, true, false, not, length, Option, Some, None, refl, sym, subst, Litmus}
use Rattle.refutation_laws.proofs.Vocabulary.{IsTest, IsCondition, Claim, Condition, truth_of, NamesExist, final_words, final_registers}
use Rattle.refutation_laws.proofs.Vocabulary.{Quantifier, Exists, NotExists, Forall, Entry, asked_claim, asked_by}
use Rattle.refutation_laws.proofs.refuted_claims.refuted_questions_are_answered.Goals as goal

asked-names : (cores locations : ℕ) (q : Quantifier) (claim : Claim) → NamesExist cores locations claim → NamesExist cores locations (asked_by q claim)
asked-names cores locations Exists claim n = n
asked-names cores locations NotExists claim n = n
asked-names cores locations Forall claim n = n

named : (t : Litmus) (d : Option Condition) → IsTest t → t.condition ≡ d → NamesExist (length t.programs) (length t.words) (asked_claim d)
named t None test e = tt
named t (Some d) test e =
    let f : IsCondition (length t.programs) (length t.locations) d = test.condition_fits d e in
    asked-names (length t.programs) (length t.words) d.quantifier d.claim
    (subst (λ n. NamesExist (length t.programs) n d.claim) (sym test.words_given) f.names_known)

turned : (b : Bool) → not b ≡ false → b ≡ true
turned true h = refl
turned false h = let z : ⊥ = cc in absurd z

pub returns-clause-names : goal.returns-clause-names
returns-clause-names c = λ t test. named t t.condition test refl

-- what is asked is false in the execution
asked-false : (t : Litmus) (order : List Entry) (d e : Option Condition) → d ≡ e
    → truth_of (final_registers t order) (final_words t order) (asked_claim d) ≡ false
    → truth_of (final_registers t order) (final_words t order) (asked_claim e) ≡ false
asked-false t order d e q h = subst (λ z. truth_of (final_registers t order) (final_words t order) (asked_claim z) ≡ false) q h

pub returns-clause-exists : goal.returns-clause-exists
returns-clause-exists c = λ model t claim nodes order test q h execution.
    asked-false t order t.condition _ q
    (c.refuted_claims_are_false.ensures.executions model t (asked_claim t.condition) nodes order (named t t.condition test refl) h execution)

pub returns-clause-not_exists : goal.returns-clause-not_exists
returns-clause-not_exists c = λ model t claim nodes order test q h execution.
    asked-false t order t.condition _ q
    (c.refuted_claims_are_false.ensures.executions model t (asked_claim t.condition) nodes order (named t t.condition test refl) h execution)

pub returns-clause-forall : goal.returns-clause-forall
returns-clause-forall c = λ model t claim nodes order test q h execution.
    turned (truth_of (final_registers t order) (final_words t order) claim)
    (asked-false t order t.condition _ q
    (c.refuted_claims_are_false.ensures.executions model t (asked_claim t.condition) nodes order (named t t.condition test refl) h execution))

pub returns-clause-unasked : goal.returns-clause-unasked
returns-clause-unasked c = λ model t nodes order test q h execution.
    never (asked-false t order t.condition None q
    (c.refuted_claims_are_false.ensures.executions model t (asked_claim t.condition) nodes order (named t t.condition test refl) h execution))
  where
    never : true ≡ false → ⊥
    never e = cc
