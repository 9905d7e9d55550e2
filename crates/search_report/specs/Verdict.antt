-- Whether a test's condition is as it claims, in herd's words.
use Rattle.std.specs.Prelude.{ℕ, ◌==◌, Bool, true, false, not, List, [], ◌++◌, Option, Some, None, codes}
use Rattle.serde_json.specs.Data.{Data, null, string}
use Rattle.tso_terms.specs.Condition.{Condition}
use Rattle.basic_laws.specs.Types.{Quantifier, Exists, NotExists, Forall}
use Rattle.tso_report.specs.Report.{line}

-- whether what a condition asks for is so in one of the states, in so many of which its proposition is true, and in so many false:
-- `exists` and `~exists` ask for one in which it is true, `forall` for one in which it is false
abbrev pub is_met : Quantifier → ℕ → ℕ → Bool
is_met Exists held failed = not (held == 0)
is_met NotExists held failed = not (held == 0)
is_met Forall held failed = not (failed == 0)

-- what is asked for can be so: that is well of `exists` alone
abbrev pub is_well : Quantifier → Bool → Bool
is_well Exists allowed = allowed
is_well NotExists allowed = not allowed
is_well Forall allowed = not allowed

-- without a condition nothing is claimed
abbrev pub is_as_claimed : Option Condition → Bool → Bool
is_as_claimed None allowed = true
is_as_claimed (Some c) allowed = is_well c.quantifier allowed

abbrev pub verdict_word : Bool → List ℕ
verdict_word true = codes "Ok"
verdict_word false = codes "No"

-- `Verdict Ok`: what `exists` names is so somewhere, what `~exists` names nowhere, what `forall` names everywhere
abbrev pub verdict_line : Option Condition → Bool → List ℕ
verdict_line None allowed = []
verdict_line (Some c) allowed = codes "Verdict " ++ line (verdict_word (is_well c.quantifier allowed))

-- `Ok` or `No`; `null` without a condition
abbrev pub outcomes_verdict_value : Option Condition → Bool → Data
outcomes_verdict_value None allowed = null
outcomes_verdict_value (Some c) allowed = string (verdict_word (is_well c.quantifier allowed))
