-- The status of an answer that has a verdict.
use Rattle.std.specs.Prelude.{Bool, true, false, Option}
use Rattle.tso_terms.specs.Condition.{Condition}
use Rattle.search_report.specs.Verdict.{is_as_claimed}
use Rattle.tso_cli.specs.declared.answer.Status.{Status}
use Rattle.tso_cli.specs.declared.answer.Status.TheVariants.{Good, NotAsClaimed, Unended}

-- where it is asserted that the condition is as it claims, and it isn't, the status says so
abbrev pub status_of_verdict : Bool → Bool → Status
status_of_verdict false is_as_claimed = Good
status_of_verdict true true = Good
status_of_verdict true false = NotAsClaimed

-- of a search that met its limit: where that is asserted, and what the condition asks for is so in a state that was met, that decides
-- the verdict, and the status tells it; else it tells that the limit was met
abbrev pub status_of_met : Bool → Option Condition → Bool → Status
status_of_met true condition true = status_of_verdict true (is_as_claimed condition true)
status_of_met true condition false = Unended
status_of_met false condition met = Unended
