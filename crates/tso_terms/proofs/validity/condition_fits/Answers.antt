use Rattle.std.proofs.Common.{◌≡◌, refl, subst}
use Rattle.tso_terms.specs.Condition.{condition_of}
use Rattle.tso_terms.specs.Litmus.{IsCondition}
use Rattle.tso_terms.proofs.validity.condition_fits.Goals as goal

pub returns-in-Some : goal.returns-in-Some
returns-in-Some c =
    rw c.in-Some.is (
      λ h x e. let same : condition_of c.in-Some.cond ≡ x = cc in subst (IsCondition c.args.cores c.args.locations) same (c.claim_fits.ensures.0 h),
      λ f. c.claim_fits.ensures.1 (f _ refl),
    )
