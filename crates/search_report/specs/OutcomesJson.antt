-- What `outcomes` prints as a JSON value, for programs to read. Its objects have their keys in the order of their bytes.
-- (This project's profile.)
use Rattle.std.specs.Prelude.{ℕ, Bool, List, [], ◌∷◌, ◌++◌, map, Option, Some, None, slice_index_or, codes}
use Rattle.std.specs.Fmt.{decimal}
use Rattle.serde_json.specs.Data.{Data, null, boolean, string, array, object, Members, no_members, member, put}
use Rattle.serde_json.specs.View.{items_of}
use Rattle.serde_json.specs.Written.{compact_text}
use Rattle.tso_terms.specs.Litmus.{Litmus}
use Rattle.tso_terms.specs.Condition.{Condition, truth_of}
use Rattle.tso_terms.specs.Registers.{name_of}
use Rattle.tso_terms.specs.declared.choice.Choice.{Choice}
use Rattle.scheduler.specs.Printed.{printed_choices}
use Rattle.tso_report.specs.Report.{line}
use Rattle.tso_report.specs.Json.{count}
use Rattle.tso_report.specs.Tally.{frequency}
use Rattle.tso_report.specs.declared.named.Named.{Named}
use Rattle.tso_report.specs.declared.named.Named.TheVariants.{Register, Location}
use Rattle.search_report.specs.Verdict.{outcomes_verdict_value}
use Rattle.search_report.specs.Outcomes.{Outcome, shown_values, held_in, failed_in, is_met_in}

-- `c:EAX`, or `x`
abbrev pub key_of : Litmus → Named → List ℕ
key_of t (Register core reg) = decimal core.0 ++ (codes ":" ++ name_of reg)
key_of t (Location loc) = slice_index_or t.locations loc.0 []

-- a member for each register and location that is shown, each where the bytes of its key belong
abbrev pub value_members : Litmus → List Named → List ℕ → Members
value_members t [] values = no_members
value_members t (named ∷ rest) [] = no_members
value_members t (named ∷ rest) (value ∷ values) = put (key_of t named) (count value) (value_members t rest values)

-- whether the condition's proposition is true in a state, where there is a condition
abbrev pub holds_in : Option Condition → Outcome → Option Bool
holds_in None o = None
holds_in (Some condition) o = Some (truth_of o.registers o.memory condition.claim)

-- that as a member, before these
abbrev pub with_holds : Option Bool → Members → Members
with_holds None members = members
with_holds (Some holds) members = member (codes "holds") (boolean holds) members

-- a state: choices that lead there, whether the proposition is true in it, and its values
abbrev pub state_value : Litmus → List Named → List ℕ → List Choice → Option Bool → Data
state_value t names values choices holds =
    object (member (codes "choices") (string (printed_choices choices))
    (with_holds holds
    (member (codes "values") (object (value_members t names values)) no_members)))

abbrev pub states_value : Litmus → List Named → List Outcome → Data
states_value t names outcomes = array (items_of (map (λ o. state_value t names (shown_values names o) o.choices (holds_in t.condition o)) outcomes))

-- in how many states the proposition is true and false, and in which of them: none, all or some
abbrev pub observed_value : ℕ → ℕ → Data
observed_value held failed =
    object (member (codes "false") (count failed)
    (member (codes "true") (count held)
    (member (codes "word") (string (frequency held failed)) no_members)))

-- that, or `null` where the test has no condition
abbrev pub observation_value : Option Condition → List Outcome → Data
observation_value None outcomes = null
observation_value (Some condition) outcomes = observed_value (held_in condition.claim outcomes) (failed_in condition.claim outcomes)

abbrev pub outcomes_value : Litmus → List Named → ℕ → List Outcome → Data
outcomes_value t names depth outcomes =
    object (member (codes "depth") (count depth)
    (member (codes "observation") (observation_value t.condition outcomes)
    (member (codes "states") (states_value t names outcomes)
    (member (codes "test") (string t.name)
    (member (codes "verdict") (outcomes_verdict_value t.condition (is_met_in t.condition outcomes)) no_members)))))

-- what is printed: the compact text of the value, on one line
abbrev pub outcomes_json : Litmus → List Named → ℕ → List Outcome → List ℕ
outcomes_json t names depth outcomes = line (compact_text (outcomes_value t names depth outcomes))
