-- Which tokens spell which rows, and the instructions that these say: a core's program is its column, from top to bottom.
use Rattle.std.specs.Prelude.{◌<◌, ◌≤◌, ℕ, ◌^◌, Bool, true, List, [], ◌∷◌, ◌++◌, length, All, IfSome, Option, Some, None, ◌||◌, false, codes, slice_index_or}
use Rattle.litmus_reader.specs.Vocabulary.{combine_constant, combine_register, compare_exchange, fence, Instr, Instructions, is_symbol}
use Rattle.litmus_reader.specs.Vocabulary.{load, location, locked_constant, locked_negate, locked_register, most_instructions}
use Rattle.litmus_reader.specs.Vocabulary.{most_locations, negate, nothing, number_of, numbered, Piece, set_imm, set_reg, Shape, store_imm}
use Rattle.litmus_reader.specs.Vocabulary.{store_reg, swap, Tilde, xadd, xchg}
use Rattle.tso_terms.specs.declared.instruction.Instr.TheVariants.{StoreImm, StoreReg, Load, SetImm, SetReg, Fence, Xchg, Xadd}
use Rattle.tso_terms.specs.declared.instruction.Instr.TheVariants.{CompareExchange, LockedCombine, LockedNegate, Combine, Negate, Swap, Nop}
use Rattle.basic_laws.specs.Types.{Number, Held}
use Rattle.litmus_tokens.specs.Terms.{Term, name}
use Rattle.litmus_reader.specs.GrammarRows.{IsRow}
use Rattle.std.specs.Str.{bytes_eq}
use Rattle.std.specs.List.{flat_map}

-- rows one after the other
pub data AreRows (set : Instructions) (cores : ℕ) : List Term → List (List (Option Shape)) → Type 0 where
  none : AreRows set cores [] []
  more : (ts us : List Term) (row : List (Option Shape)) (others : List (List (Option Shape)))
      → IsRow set cores ts row → AreRows set cores us others → AreRows set cores (ts ++ us) (row ∷ others)

-- `locations`, `exists` and `forall`
abbrev pub ends_rows_term : Term → Bool
ends_rows_term (name x) = bytes_eq x (codes "locations") || bytes_eq x (codes "exists") || bytes_eq x (codes "forall")
ends_rows_term other = false

-- the end of the tokens, or a token with which no row begins
unfoldable pub ends_rows : List Piece → Bool
ends_rows [] = true
ends_rows (p ∷ ps) = ends_rows_term p.term || is_symbol Tilde p

-- ---- the instructions

abbrev pub in_field : Option Shape → List Shape
in_field None = []
in_field (Some shape) = shape ∷ []

-- the instructions of all rows, from the first row down
abbrev pub in_rows : List (List (Option Shape)) → List Shape
in_rows table = flat_map (flat_map in_field) table

-- the instructions of a core's column, from top to bottom
abbrev pub column : ℕ → List (List (Option Shape)) → List Shape
column core table = flat_map (λ row. in_field (slice_index_or row core None)) table

-- the location that an instruction names, if it does
abbrev pub location_in : Shape → List (List ℕ)
location_in (store_imm x v) = x ∷ []
location_in (store_reg x reg) = x ∷ []
location_in (load reg x) = x ∷ []
location_in (xchg x reg) = x ∷ []
location_in (xadd x reg) = x ∷ []
location_in (compare_exchange x reg) = x ∷ []
location_in (locked_constant operator x v) = x ∷ []
location_in (locked_register operator x reg) = x ∷ []
location_in (locked_negate x) = x ∷ []
location_in others = []

-- the number that an instruction has, if it has one
abbrev pub number_in : Shape → Option ℕ
number_in (store_imm x v) = Some v
number_in (set_imm reg v) = Some v
number_in (locked_constant operator x v) = Some v
number_in (combine_constant operator reg v) = Some v
number_in others = None

-- the locations that the rows name, in their order
abbrev pub named_in : List (List (Option Shape)) → List (List ℕ)
named_in table = flat_map location_in (in_rows table)

-- the instruction, where these are the names of the locations by their numbers
abbrev pub instr_with : List (List ℕ) → Shape → Instr
instr_with names (store_imm x v) = StoreImm (location (number_of names x)) v
instr_with names (store_reg x reg) = StoreReg (location (number_of names x)) reg
instr_with names (load reg x) = Load reg (location (number_of names x))
instr_with names (set_imm reg v) = SetImm reg v
instr_with names (set_reg reg other) = SetReg reg other
instr_with names fence = Fence
instr_with names (xchg x reg) = Xchg (location (number_of names x)) reg
instr_with names (xadd x reg) = Xadd (location (number_of names x)) reg
instr_with names (compare_exchange x reg) = CompareExchange (location (number_of names x)) reg
instr_with names (locked_constant operator x v) = LockedCombine (location (number_of names x)) operator (Number v)
instr_with names (locked_register operator x reg) = LockedCombine (location (number_of names x)) operator (Held reg)
instr_with names (locked_negate x) = LockedNegate (location (number_of names x))
instr_with names (combine_constant operator reg v) = Combine reg operator (Number v)
instr_with names (combine_register operator reg other) = Combine reg operator (Held other)
instr_with names (negate reg) = Negate reg
instr_with names (swap reg other) = Swap reg other
instr_with names nothing = Nop

-- ---- what fits

-- a word has room for the number
abbrev pub ValueFits : Shape → Type 0
ValueFits shape = IfSome (number_in shape) (λ v. v < 2 ^ 32)

-- after what named these locations, rows are within the limits of a test
pub record AreWithin (names : List (List ℕ)) (table : List (List (Option Shape))) : Type 0 where
  pub values : All ValueFits (in_rows table)
  pub few : (core : ℕ) → length (column core table) ≤ most_instructions
  pub room : length (numbered names (named_in table)) ≤ most_locations
