-- The values that are printed have no float, so that their text is known.
use Rattle.search_report.proofs.Vocabulary.{◌≡◌, ℕ, Bool, false, List, [], ◌∷◌, Option, Some, None, codes, refl, Members, no_members}
use Rattle.search_report.proofs.Vocabulary.{member, object, has_float, members_have_float, Litmus, Condition, Named, Outcome, shown_values}
use Rattle.search_report.proofs.Vocabulary.{is_met_in, outcomes_verdict_value, key_of, value_members, with_holds, holds_in, state_value}
use Rattle.search_report.proofs.Vocabulary.{states_value, observation_value, outcomes_value}
use Rattle.tso_report.specs.Json.{count}
use Rattle.tso_report.proofs.NoFloats.{neither, one_more}

values : (t : Litmus) (names : List Named) (list : List ℕ) → members_have_float (value_members t names list) ≡ false
values t (named ∷ names) (value ∷ list) = one_more (key_of t named) (count value) (value_members t names list) refl (values t names list)
values t names list = refl

holds : (h : Option Bool) (members : Members) → members_have_float members ≡ false → members_have_float (with_holds h members) ≡ false
holds None ms none = none
holds (Some b) ms none = none

pub states : (t : Litmus) (names : List Named) (outcomes : List Outcome) → has_float (states_value t names outcomes) ≡ false
states t names [] = refl
states t names (o ∷ outcomes) =
    let shown = value_members t names (shown_values names o) in
    neither (has_float (state_value t names (shown_values names o) o.choices (holds_in t.condition o))) (has_float (states_value t names outcomes))
    (holds (holds_in t.condition o) (member (codes "values") (object shown) no_members)
    (neither (members_have_float shown) false (values t names (shown_values names o)) refl))
    (states t names outcomes)

observation : (o : Option Condition) (outcomes : List Outcome) → has_float (observation_value o outcomes) ≡ false
observation None outcomes = refl
observation (Some condition) outcomes = refl

pub verdict : (o : Option Condition) (allowed : Bool) → has_float (outcomes_verdict_value o allowed) ≡ false
verdict None allowed = refl
verdict (Some condition) allowed = refl

pub outcomes_have_no_float : (t : Litmus) (names : List Named) (depth : ℕ) (outcomes : List Outcome) → has_float (outcomes_value t names depth outcomes) ≡ false
outcomes_have_no_float t names depth outcomes =
    let allowed = is_met_in t.condition outcomes in
    neither (has_float (observation_value t.condition outcomes)) _ (observation t.condition outcomes)
    (neither (has_float (states_value t names outcomes)) _ (states t names outcomes)
    (neither (has_float (outcomes_verdict_value t.condition allowed)) false (verdict t.condition allowed) refl))
