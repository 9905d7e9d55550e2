-- What a tally of the code holds, and one more run in it: only its values and its verdict are looked at.
use Rattle.std.specs.Prelude.{ℕ, ◌≡◌, ◌<◌, Bool, Option, List, ◌++◌, filter}
use Rattle.tso_terms.specs.Litmus.{Litmus}
use Rattle.tso_terms.specs.Condition.{Claim, Condition}
use Rattle.tso_report.specs.declared.named.Named.{Named}
use Rattle.tso_report.specs.declared.named.Named.TheVariants.{Register, Location}
use Rattle.tso_report.specs.Shown.{ShownRun}
use Rattle.tso_report.specs.Tally.{RunCounts, claim_names_register, claim_names_location, is_looked_at, values_in, with_state_counted, with_verdict}

-- of these names those that are looked at are put after the list
abbrev pub AreNoted : Option Condition → List Named → List Named → List Named → Type 0
AreNoted condition names old new = new ≡ old ++ filter (is_looked_at condition) names

-- whether an atom of the claim names it
abbrev pub claim_names : Claim → Named → Bool
claim_names claim (Register core reg) = claim_names_register claim core.0 reg
claim_names claim (Location loc) = claim_names_location claim loc.0

-- the core or the location is below these numbers
abbrev pub NameExists : ℕ → ℕ → Named → Type 0
NameExists cores locations (Register core reg) = core.0 < cores
NameExists cores locations (Location loc) = loc.0 < locations

-- one more run of the test that ended, in this state, with this truth of the condition's proposition
abbrev pub with_ended : Litmus → List (List ℕ) → List ℕ → Option Bool → RunCounts → RunCounts
with_ended t registers memory holds c = with_verdict holds (with_state_counted (values_in t registers memory) c)

abbrev pub with_run : Litmus → ShownRun → RunCounts → RunCounts
with_run t s c = with_ended t s.registers s.memory s.holds c

-- what a tally holds
pub record Tallied : Type 0 where
  pub test : Litmus
  pub counts : RunCounts
