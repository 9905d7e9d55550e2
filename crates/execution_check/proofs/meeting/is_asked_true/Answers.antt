use Rattle.std.proofs.Common.{◌≡◌, length, Some, sym, subst}
use Rattle.tso_terms.specs.Litmus.{Litmus, IsTest, IsCondition}
use Rattle.tso_terms.specs.Condition.{NamesExist, claim_of, condition_of}
use Rattle.basic_laws.specs.Types.{Cond}
use Rattle.execution_check.proofs.meeting.is_asked_true.Goals as goal

-- what a test asks names what exists in it
condition-names : (t : Litmus) (d : Cond) → IsTest t → Some (condition_of d) ≡ t.condition
    → NamesExist (length t.programs) (length t.words) (claim_of d.prop)
condition-names t d test e =
    let f : IsCondition (length t.programs) (length t.locations) (condition_of d) = test.condition_fits (condition_of d) (sym e) in
    subst (λ n. NamesExist (length t.programs) n (claim_of d.prop)) (sym test.words_given) f.names_known

pub cond_holds-truth-requires : goal.cond_holds-truth-requires
cond_holds-truth-requires c =
    subst (λ n. NamesExist n (length c.args.words.now) (claim_of c.in-Some.cond.now.prop)) (sym c.requires.registers)
    (subst (λ n. NamesExist (length c.args.test.now.programs) n (claim_of c.in-Some.cond.now.prop)) (sym c.requires.words)
    (condition-names c.args.test.now c.in-Some.cond.now c.cond.ensures.test c.in-Some.ensures.value))
