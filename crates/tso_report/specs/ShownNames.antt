-- Which registers and locations a final state shows, and their values there. States are told apart by what is shown, as herd and
-- litmus7 tell them apart by what a condition names.
use Rattle.std.specs.Prelude.{ℕ, ◌==◌, ◌||◌, Bool, true, false, Option, Some, None, List, [], ◌++◌, length, map, filter, slice_index_or}
use Rattle.std.specs.List.{list_any}
use Rattle.tso_terms.specs.Litmus.{Litmus}
use Rattle.tso_terms.specs.Registers.{index_of}
use Rattle.tso_terms.specs.Actions.{action_of}
use Rattle.basic_laws.specs.Types.{Reg, Instr, Action, Change, Keep, Set, Swap}
use Rattle.tso_terms.specs.declared.action.Action.TheVariants.{Store, Load, Move, Fence, Lock}
use Rattle.tso_report.specs.Tally.{is_looked_at, named_registers, named_locations, shown_value}
use Rattle.tso_report.specs.declared.named.Named.{Named}
use Rattle.tso_report.specs.declared.named.Named.TheVariants.{Register, Location}
use Rattle.tso_report.specs.declared.show.Show.{Show}
use Rattle.tso_report.specs.declared.show.Show.TheVariants as shows

-- whether a move writes this register
abbrev pub changes_register : Change → Reg → Bool
changes_register Keep reg = false
changes_register (Set written update) reg = index_of written == index_of reg
changes_register (Swap written other) reg = (index_of written == index_of reg) || (index_of other == index_of reg)

-- whether a locked instruction with this register does
abbrev pub takes_into : Option Reg → Reg → Bool
takes_into None reg = false
takes_into (Some written) reg = index_of written == index_of reg

-- whether an action does
abbrev pub writes : Action → Reg → Bool
writes (Store loc operand) reg = false
writes (Load written loc) reg = index_of written == index_of reg
writes (Move change) reg = changes_register change reg
writes Fence reg = false
writes (Lock loc target update) reg = takes_into target reg

-- whether an instruction of the program does
abbrev pub writes_one : List Instr → Reg → Bool
writes_one program reg = list_any (λ i. writes (action_of i) reg) program

-- whether it is a register that an instruction of its core writes
abbrev pub is_written : Litmus → Named → Bool
is_written t (Register core reg) = writes_one (slice_index_or t.programs core.0 []) reg
is_written t (Location loc) = false

abbrev pub is_location : Named → Bool
is_location (Register core reg) = false
is_location (Location loc) = true

-- whether it is shown even where nobody looks at it: nothing, or each register that is written, or that and all locations
abbrev pub is_added : Show → Litmus → Named → Bool
is_added shows.Condition t named = false
is_added shows.Registers t named = is_written t named
is_added shows.All t named = is_written t named || is_location named

-- whether it is shown: what is looked at always is
abbrev pub is_shown : Show → Litmus → Named → Bool
is_shown show t named = is_looked_at t.condition named || is_added show t named

-- what is shown of the test's final states, registers first: by core and in their order, and then locations by number
abbrev pub names_shown : Show → Litmus → List Named
names_shown show t = filter (is_shown show t) (named_registers 0 (length t.programs) ++ named_locations 0 (length t.locations))

-- the values that a final state has at these
abbrev pub values_at : List Named → List (List ℕ) → List ℕ → List ℕ
values_at names registers memory = map (shown_value registers memory) names
