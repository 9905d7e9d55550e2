-- An execution, whatever it needs.
use Rattle.promises.proofs.Vocabulary.{◌≡◌, ◌≤◌, ℕ, Bool, List, Claim, Litmus, Entry}
use Rattle.tso_laws.specs.Depth.{needed}
use Rattle.tso_terms.specs.Axioms.{IsTsoExecution}
use Rattle.printed_laws.specs.Observed.{truth_after}

pub needs-no-more : (t : Litmus) (claim : Claim) (truth : Bool) (depth : ℕ)
    → (order : List Entry) × IsTsoExecution t order × (needed order ≤ depth) × (truth_after t claim order ≡ truth)
    → (order : List Entry) × IsTsoExecution t order × (truth_after t claim order ≡ truth)
needs-no-more t claim truth depth (order, execution, depth_needed, so) = (order, execution, so)
