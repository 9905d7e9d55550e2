-- The proposition of a test's condition as a text, as the grammar of conditions reads it. (This project's profile.)
use Rattle.std.specs.Prelude.{ℕ, Bool, true, false, List, [], ◌++◌, slice_index_or, codes}
use Rattle.std.specs.Option.{option_map}
use Rattle.std.specs.Fmt.{decimal}
use Rattle.trace_report.specs.Vocabulary.{Data, Litmus, name_of}
use Rattle.tso_terms.specs.Condition.{Claim, TruthClaim, RegClaim, LocClaim, NotClaim, AndClaim, OrClaim}
use Rattle.trace_report.specs.JsonValues.{text_or_null}

-- whether it is joined by `\/`, and whether by `/\` or `\/`
abbrev pub is_or : Claim → Bool
is_or (OrClaim left right) = true
is_or _ = false

abbrev pub is_joined : Claim → Bool
is_joined (AndClaim left right) = true
is_joined (OrClaim left right) = true
is_joined _ = false

-- a text, in brackets where it is to have them
abbrev pub bracketed_text : Bool → List ℕ → List ℕ
bracketed_text true text = codes "(" ++ (text ++ codes ")")
bracketed_text false text = text

abbrev pub truth_word : Bool → List ℕ
truth_word true = codes "true"
truth_word false = codes "false"

-- a proposition with as few brackets as may be: `/\` binds stronger than `\/`, and both join from the left, so
-- `a /\ b /\ c` is `(a /\ b) /\ c`
abbrev pub proposition_text : Litmus → Claim → List ℕ
proposition_text t (TruthClaim truth) = truth_word truth
proposition_text t (RegClaim core reg value) = decimal core ++ (codes ":" ++ (name_of reg ++ (codes "=" ++ decimal value)))
proposition_text t (LocClaim loc value) = slice_index_or t.locations loc [] ++ (codes "=" ++ decimal value)
proposition_text t (NotClaim inner) = codes "~" ++ bracketed_text (is_joined inner) (proposition_text t inner)
proposition_text t (AndClaim left right) =
    bracketed_text (is_or left) (proposition_text t left) ++ (codes " /\\ " ++ bracketed_text (is_joined right) (proposition_text t right))
proposition_text t (OrClaim left right) =
    proposition_text t left ++ (codes " \\/ " ++ bracketed_text (is_or right) (proposition_text t right))

-- that of the test's condition, or `null` where it has none
abbrev pub proposition_value : Litmus → Data
proposition_value t = text_or_null (option_map (λ condition. proposition_text t condition.claim) t.condition)
