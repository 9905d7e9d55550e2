-- A test, and the limits that every test keeps. That each location of a program has a word, and each core its registers, is
-- part of them: without it reads would have no value. (This project's profile.)
use Rattle.std.specs.Prelude.{ℕ, ◌<◌, ◌≤◌, ◌≡◌, ◌&&◌, Bool, IsTrue, true, not, List, [], ◌∷◌, length, Option, IfSome, All}
use Rattle.std.specs.Option.{ForSome}
use Rattle.std.specs.List.{list_all}
use Rattle.tso_terms.specs.Limits.{most_cores, most_locations, most_instructions, most_atoms, most_open}
use Rattle.tso_terms.specs.Registers.{IsWord, AreRegisters}
use Rattle.tso_terms.specs.Actions.{action_of, location_of}
use Rattle.tso_terms.specs.Condition.{Condition, NamesExist, atoms_in, negations_in}
use Rattle.tso_terms.specs.Names.{is_test_name, is_location_name, is_among}
use Rattle.tso_terms.specs.declared.instruction.Instr.{Instr}
use Rattle.tso_terms.specs.declared.instruction.Instr.TheVariants.{StoreImm, SetImm, LockedCombine, Combine}
use Rattle.tso_terms.specs.declared.action.Operand.{Operand}
use Rattle.tso_terms.specs.declared.action.Operand.TheVariants.{Number, Held}

-- a test: the names of its locations and their first words, and for each core its first registers and its program
pub record Litmus : Type 0 where
  pub name : List ℕ
  pub locations : List (List ℕ)
  pub words : List ℕ
  pub registers : List (List ℕ)
  pub programs : List (List Instr)
  pub condition : Option Condition

-- the location of the instruction, if it has one, is below this number
abbrev pub KnownLocation : ℕ → Instr → Type 0
KnownLocation locations i = IfSome (location_of (action_of i)) (λ loc. loc.0 < locations)

-- the operand is a word, if it is a number
abbrev pub OperandIsWord : Operand → Type 0
OperandIsWord (Number value) = IsWord value
OperandIsWord (Held reg) = Unit {0}

-- the constant of the instruction, if it has one, is a word
abbrev pub ConstantIsWord : Instr → Type 0
ConstantIsWord (StoreImm loc value) = IsWord value
ConstantIsWord (SetImm reg value) = IsWord value
ConstantIsWord (LockedCombine loc operator operand) = OperandIsWord operand
ConstantIsWord (Combine reg operator operand) = OperandIsWord operand
ConstantIsWord _ = Unit {0}

-- a program within the limits, over so many locations
pub record IsProgram (locations : ℕ) (program : List Instr) : Type 0 where
  pub size : length program ≤ most_instructions
  pub locations_known : All (KnownLocation locations) program

-- a condition within the limits, over so many cores and locations
pub record IsCondition (cores locations : ℕ) (c : Condition) : Type 0 where
  pub names_known : NamesExist cores locations c.claim
  pub atoms : atoms_in c.claim ≤ most_atoms
  pub negations : negations_in c.claim ≤ most_open

-- whether no name comes twice
abbrev pub are_distinct : List (List ℕ) → Bool
are_distinct [] = true
are_distinct (x ∷ xs) = not (is_among x xs) && are_distinct xs

-- what every value of a test is: a word; and each core has its six registers
pub record HasWords (t : Litmus) : Type 0 where
  pub words : All IsWord t.words
  pub registers : All AreRegisters t.registers
  pub constants : All (λ program. All ConstantIsWord program) t.programs

-- what every test keeps
pub record IsTest (t : Litmus) : Type 0 where
  pub name_spelled : IsTrue (is_test_name t.name)
  pub some_core : 0 < length t.programs
  pub cores : length t.programs ≤ most_cores
  pub registers_given : length t.registers ≡ length t.programs
  pub location_count : length t.locations ≤ most_locations
  pub locations_spelled : IsTrue (list_all is_location_name t.locations)
  pub locations_differ : IsTrue (are_distinct t.locations)
  pub words_given : length t.words ≡ length t.locations
  pub values : HasWords t
  pub programs_fit : All (IsProgram (length t.locations)) t.programs
  pub condition_fits : ForSome t.condition (IsCondition (length t.programs) (length t.locations))
