-- What is counted of a sweep, the runs of one test under many lists of choices, and its text. Runs are told apart by what
-- the test's condition names, as herd and litmus7 do it.
use Rattle.std.specs.Prelude.{ℕ, zero, suc, ◌+◌, ◌==◌, ◌&&◌, ◌||◌, Bool, true, false, if◌then◌else◌, Option, Some, None}
use Rattle.std.specs.Prelude.{List, [], ◌∷◌, ◌++◌, map, filter, sum, length, slice_index, slice_index_or, codes}
use Rattle.std.specs.Fmt.{decimal}
use Rattle.std.specs.Option.{unwrap_or}
use Rattle.std.specs.Ordering.{nat_cmp}
use Rattle.std.specs.Cmp.Lexicographic.{slice_cmp}
use Rattle.std.specs.BTreeMap.{insert_entry, is_at}
use Rattle.std.specs.List.Sorted.{IsStrictlySortedBy}
use Rattle.std.specs.Map.{lookup, keys_of, values_of}
use Rattle.tso_terms.specs.Litmus.{Litmus}
use Rattle.tso_terms.specs.Condition.{Claim, TruthClaim, RegClaim, LocClaim, NotClaim, AndClaim, OrClaim, Condition}
use Rattle.tso_terms.specs.Registers.{index_of, name_of}
use Rattle.tso_terms.specs.Thread.{value_in}
use Rattle.tso_terms.specs.declared.register.Reg.{Reg}
use Rattle.tso_report.specs.declared.named.Named.{Named}
use Rattle.tso_report.specs.declared.named.Named.TheVariants.{Register, Location}
use Rattle.tso_report.specs.Report.{line, all_registers}

-- ---- what is looked at of a final state

-- whether an atom of the claim names this register of this core
abbrev pub claim_names_register : Claim → ℕ → Reg → Bool
claim_names_register (TruthClaim truth) core reg = false
claim_names_register (RegClaim other named value) core reg = (other == core) && (index_of named == index_of reg)
claim_names_register (LocClaim loc value) core reg = false
claim_names_register (NotClaim inner) core reg = claim_names_register inner core reg
claim_names_register (AndClaim left right) core reg = claim_names_register left core reg || claim_names_register right core reg
claim_names_register (OrClaim left right) core reg = claim_names_register left core reg || claim_names_register right core reg

-- whether an atom of the claim names this location
abbrev pub claim_names_location : Claim → ℕ → Bool
claim_names_location (TruthClaim truth) loc = false
claim_names_location (RegClaim core reg value) loc = false
claim_names_location (LocClaim named value) loc = named == loc
claim_names_location (NotClaim inner) loc = claim_names_location inner loc
claim_names_location (AndClaim left right) loc = claim_names_location left loc || claim_names_location right loc
claim_names_location (OrClaim left right) loc = claim_names_location left loc || claim_names_location right loc

-- whether it is looked at: the condition names it; without a condition all locations are, and no register
abbrev pub is_looked_at : Option Condition → Named → Bool
is_looked_at None (Register core reg) = false
is_looked_at None (Location loc) = true
is_looked_at (Some condition) (Register core reg) = claim_names_register condition.claim core.0 reg
is_looked_at (Some condition) (Location loc) = claim_names_location condition.claim loc.0

abbrev pub named_register : ℕ → Reg → Named
named_register core reg = Register (record { 0 = core }) reg

abbrev pub named_location : ℕ → Named
named_location loc = Location (record { 0 = loc })

-- the registers of so many cores from this one on: core by core, in their order
abbrev pub named_registers : ℕ → ℕ → List Named
named_registers core zero = []
named_registers core (suc count) = map (named_register core) all_registers ++ named_registers (core + 1) count

-- so many locations from this one on
abbrev pub named_locations : ℕ → ℕ → List Named
named_locations loc zero = []
named_locations loc (suc count) = named_location loc ∷ named_locations (loc + 1) count

-- what is looked at of the test's final states, registers first
abbrev pub looked_at : Litmus → List Named
looked_at t = filter (is_looked_at t.condition) (named_registers 0 (length t.programs) ++ named_locations 0 (length t.locations))

abbrev pub shown_value : List (List ℕ) → List ℕ → Named → ℕ
shown_value registers memory (Register core reg) = value_in (slice_index_or registers core.0 []) reg
shown_value registers memory (Location loc) = slice_index memory loc.0

-- the values that a final state has there
abbrev pub values_in : Litmus → List (List ℕ) → List ℕ → List ℕ
values_in t registers memory = map (shown_value registers memory) (looked_at t)

-- ---- what is counted

-- states: how many ended runs gave each list of values, in ascending order of the lists; held and failed: how many ended
-- runs made the condition's proposition true, and false; unfinished: how many runs didn't end
pub record RunCounts : Type 0 where
  pub states : List (List ℕ × ℕ)
  pub held : ℕ
  pub failed : ℕ
  pub unfinished : ℕ

abbrev pub run_counts : List (List ℕ × ℕ) → ℕ → ℕ → ℕ → RunCounts
run_counts states held failed unfinished = record { states = states; held = held; failed = failed; unfinished = unfinished }

abbrev pub nothing_counted : RunCounts
nothing_counted = run_counts [] 0 0 0

-- how many runs gave these values
abbrev pub count_of_runs : List ℕ → List (List ℕ × ℕ) → ℕ
count_of_runs values states = unwrap_or (lookup (is_at (slice_cmp nat_cmp values)) states) 0

-- one more run gave these values: values that are new come to their place in the order
abbrev pub with_values : List ℕ → List (List ℕ × ℕ) → List (List ℕ × ℕ)
with_values values states = insert_entry (slice_cmp nat_cmp) states values (count_of_runs values states + 1)

-- the lists are in ascending order, each once
abbrev pub Ascend : List (List ℕ × ℕ) → Type 0
Ascend states = IsStrictlySortedBy (slice_cmp nat_cmp) (keys_of states)

abbrev pub with_verdict : Option Bool → RunCounts → RunCounts
with_verdict None c = c
with_verdict (Some true) c = run_counts c.states (c.held + 1) c.failed c.unfinished
with_verdict (Some false) c = run_counts c.states c.held (c.failed + 1) c.unfinished

abbrev pub with_state_counted : List ℕ → RunCounts → RunCounts
with_state_counted values c = run_counts (with_values values c.states) c.held c.failed c.unfinished

-- one more run that didn't end
abbrev pub with_unfinished : RunCounts → RunCounts
with_unfinished c = run_counts c.states c.held c.failed (c.unfinished + 1)

-- how many runs ended, and how many runs there are
abbrev pub ended_in : RunCounts → ℕ
ended_in c = sum (values_of c.states)

abbrev pub runs_in : RunCounts → ℕ
runs_in c = ended_in c + c.unfinished

-- ---- its text

-- ` c:EAX=v`, or ` x=v`
abbrev pub printed_value : Litmus → Named → ℕ → List ℕ
printed_value t (Register core reg) value = codes " " ++ (decimal core.0 ++ (codes ":" ++ (name_of reg ++ (codes "=" ++ decimal value))))
printed_value t (Location loc) value = codes " " ++ (slice_index_or t.locations loc.0 [] ++ (codes "=" ++ decimal value))

abbrev pub printed_values : Litmus → List Named → List ℕ → List ℕ
printed_values t [] values = []
printed_values t (named ∷ rest) [] = []
printed_values t (named ∷ rest) (value ∷ values) = printed_value t named value ++ printed_values t rest values

-- `State COUNT 0:EAX=v x=v ..`
abbrev pub counted_state_line : Litmus → List ℕ × ℕ → List ℕ
counted_state_line t state = codes "State " ++ (decimal state.1 ++ line (printed_values t (looked_at t) state.0))

abbrev pub counted_state_lines : Litmus → List (List ℕ × ℕ) → List ℕ
counted_state_lines t [] = []
counted_state_lines t (state ∷ rest) = counted_state_line t state ++ counted_state_lines t rest

-- ` ended=E unfinished=U`
abbrev pub ends_text : ℕ → ℕ → List ℕ
ends_text ended unfinished = codes " ended=" ++ (decimal ended ++ (codes " unfinished=" ++ decimal unfinished))

-- `Sweep from=F seeds=N length=L ended=E unfinished=U`
abbrev pub sweep_line : ℕ → ℕ → ℕ → ℕ → List ℕ
sweep_line ended unfinished from length =
    codes "Sweep from=" ++ (decimal from ++ (codes " seeds=" ++ (decimal (ended + unfinished) ++ (codes " length=" ++ (decimal length
    ++ line (ends_text ended unfinished))))))

-- whether the proposition was true in none, in all or in some of the runs that ended
abbrev pub frequency : ℕ → ℕ → List ℕ
frequency held failed = if held == 0 then codes "Never" else (if failed == 0 then codes "Always" else codes "Sometimes")

-- ` Sometimes P Q`
abbrev pub frequency_text : ℕ → ℕ → List ℕ
frequency_text held failed = codes " " ++ (frequency held failed ++ (codes " " ++ (decimal held ++ (codes " " ++ decimal failed))))

-- `Observation NAME Sometimes P Q`
abbrev pub observed_line : List ℕ → ℕ → ℕ → List ℕ
observed_line name held failed = codes "Observation " ++ (name ++ line (frequency_text held failed))

-- that line where the test has a condition
abbrev pub observation : List ℕ → Option Condition → ℕ → ℕ → List ℕ
observation name None held failed = []
observation name (Some condition) held failed = observed_line name held failed

-- the text of a sweep whose first seed is `from`, with so many choices a run
abbrev pub tally_text : Litmus → RunCounts → ℕ → ℕ → List ℕ
tally_text t c from length =
    sweep_line (ended_in c) c.unfinished from length
    ++ (counted_state_lines t c.states ++ observation t.name t.condition c.held c.failed)
