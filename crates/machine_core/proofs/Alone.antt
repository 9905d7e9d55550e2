-- What the caches' bus tells of its holder, of the load part that waits for its store part.
use Rattle.machine_core.proofs.Vocabulary.{◌≡◌, IfSome, Some, refl, subst, ap, ◌∙◌, Litmus, holder_of, holder, StandsAlone, Locked}
use Rattle.machine_core.proofs.Vocabulary.{Hardware, IsHeldForAccess, held_as, state_in, IsAloneIn}

pub alone-in : {P : Type 0} (t : Litmus) (m : Hardware P) → IsHeldForAccess t m → IfSome (holder_of m.bus) (StandsAlone m.bus) → IsAloneIn m
alone-in t m held alone e between =
    let is : holder_of m.bus ≡ Some (holder e.core e.loc Locked) = held ∙ ap (held_as t m.config.depth (state_in m).flat) between in
    let a : StandsAlone m.bus (holder e.core e.loc Locked) = subst (λ h. IfSome h (StandsAlone m.bus)) is alone in
    record { own = a.own refl; others = a.others (λ s. let z : ⊥ = cc in z) }
