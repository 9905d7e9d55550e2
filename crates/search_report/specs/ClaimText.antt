-- A part of what is asked, as text: that it is true, or false.
use Rattle.std.specs.Prelude.{ℕ, Bool, true, false, List, ◌++◌, codes}
use Rattle.std.specs.Fmt.{decimal}
use Rattle.search_report.specs.Vocabulary.{AndClaim, Claim, key_of, Litmus, LocClaim, Named, NotClaim, OrClaim, printed_truth, RegClaim, TruthClaim}
use Rattle.tso_report.specs.Tally.{named_location, named_register}

-- `=1`, or ` not 1`
abbrev pub value_text : ℕ → Bool → List ℕ
value_text value true = codes "=" ++ decimal value
value_text value false = codes " not " ++ decimal value

-- `0:EAX=1`, or `x not 1`
abbrev pub atom_text : Litmus → Named → ℕ → Bool → List ℕ
atom_text t named value truth = key_of t named ++ value_text value truth

-- a proposition as conditions have it, with brackets around each one that is joined
abbrev pub claim_text : Litmus → Claim → List ℕ
claim_text t (TruthClaim truth) = printed_truth truth
claim_text t (RegClaim core reg value) = atom_text t (named_register core reg) value true
claim_text t (LocClaim loc value) = atom_text t (named_location loc) value true
claim_text t (NotClaim inner) = codes "~" ++ claim_text t inner
claim_text t (AndClaim left right) = codes "(" ++ (claim_text t left ++ (codes " /\\ " ++ (claim_text t right ++ codes ")")))
claim_text t (OrClaim left right) = codes "(" ++ (claim_text t left ++ (codes " \\/ " ++ (claim_text t right ++ codes ")")))

-- that it is true, or false
abbrev pub holds_text : Litmus → Claim → Bool → List ℕ
holds_text t (RegClaim core reg value) truth = atom_text t (named_register core reg) value truth
holds_text t (LocClaim loc value) truth = atom_text t (named_location loc) value truth
holds_text t claim true = claim_text t claim
holds_text t claim false = codes "~" ++ claim_text t claim
