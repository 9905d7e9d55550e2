-- The initial state, as it is read: its items one after the other, each refused where it gives a second value.
use Rattle.std.specs.Prelude.{ℕ, zero, suc, Bool, List, [], ◌∷◌, ◌++◌, length, replicate, Option, Some, None, true, Result, Ok, Err, nat_lt}
use Rattle.std.specs.Prelude.{slice_index_or, slice_set, ◌==◌, ◌&&◌, if◌then◌else◌, false}
use Rattle.std.specs.List.{list_any}
use Rattle.std.specs.Str.{bytes_eq}
use Rattle.litmus_reader.specs.Vocabulary.{BadToken, CloseCurly, Fault, fault, index_of, OpenCurly, Piece, Reg, Semicolon, Stop, symbol_at}
use Rattle.litmus_reader.specs.Vocabulary.{there, TwiceInit, Unclosed, with_value, word_at, ◌>>=◌}
use Rattle.litmus_reader.specs.declared.fault.Part.{Part}
use Rattle.litmus_reader.specs.Faults.{or_unfit}
use Rattle.litmus_tokens.specs.Locations.{located}
use Rattle.litmus_reader.specs.Settings.{setting_at, core_of}
use Rattle.litmus_reader.specs.Places.{at_stop, remaining_of, in_initial}
use Rattle.litmus_reader.specs.Sections.{section_of}
use Rattle.litmus_reader.specs.Written.{Setting, of_register, of_location}

-- a register's first word, and the place of the item that gives it; the core is its digits
pub record Given : Type 0 where
  pub remaining : ℕ
  pub core : List ℕ
  pub reg : Reg
  pub value : ℕ

-- what has been read: the names of the locations, their first words, and the registers' first words
pub record Initial : Type 0 where
  pub names : List (List ℕ)
  pub words : List ℕ
  pub registers : List Given

-- whether this register of this core is given there
abbrev pub gives : List ℕ → Reg → Given → Bool
gives core reg g = bytes_eq g.core core && (index_of g.reg == index_of reg)

-- An item at `remaining`, judged for its number, then its location, then whether an item before it gave the same a word.
-- Each location so far has been given one.
unfoldable pub judged : ℕ → Initial → Setting → Result Initial Fault
judged remaining i (of_register core reg v) =
    word_at remaining v >>= λ value.
    if list_any (gives core reg) i.registers then Err (fault TwiceInit remaining)
    else Ok (record i { registers = i.registers ++ record { remaining = remaining; core = core; reg = reg; value = value } ∷ [] })
judged remaining i (of_location x v) =
    word_at remaining v >>= λ value.
    located remaining i.names x >>= λ loc.
    if nat_lt loc.0.0 (length i.words) then Err (fault TwiceInit remaining)
    else Ok (record i { names = loc.1; words = i.words ++ value ∷ [] })

-- where an item ends, whether the initial state ends with it
unfoldable pub item_end : List Piece → Option Bool
item_end ps = there (symbol_at Semicolon ps) (λ _. Some false) (there (symbol_at CloseCurly ps) (λ _. Some true) None)

-- an item, judged once its end is there, and whether the initial state ends with it; an item may be empty
unfoldable pub item_in : Part → Initial → List Piece → Result (Initial × Bool) Fault
item_in part i ps =
    there (item_end ps) (λ is_last. Ok (i, is_last))
    (setting_at part ps >>= λ setting.
    or_unfit part setting.1 (item_end setting.1) >>= λ is_last.
    judged (remaining_of ps) i setting.0 >>= λ after. Ok (after, is_last))

-- what comes before the `}`, in fewer than n items, and what comes after it; an item is first taken to its end
unfoldable pub items_within : ℕ → ℕ → Stop → Initial → List Piece → Result (Initial × List Piece) Fault
items_within zero remaining stop i ps = Err (fault Unclosed remaining)
items_within (suc n) remaining stop i ps =
    let section = section_of (Semicolon ∷ CloseCurly ∷ []) stop ps in
    item_in (in_initial remaining section.stop) i section.tokens >>= λ read.
    if read.1 then Ok (read.0, section.rest) else items_within n remaining stop read.0 section.rest

-- The initial state, and what comes after it; there are no names before it. Another token than its `{` is a bad one, and a
-- text that ends before it is unclosed.
unfoldable pub initial_at : Stop → List (List ℕ) → List Piece → Result (Initial × List Piece) Fault
initial_at stop names ps = do
  rest ← or_unfit (record { why = BadToken; missing = at_stop (fault Unclosed 0) stop }) ps (symbol_at OpenCurly ps)
  items_within (suc (length rest)) (remaining_of ps) stop (record { names = names; words = []; registers = [] }) rest

-- the registers with these first words; the first of a core that isn't there is refused
unfoldable pub registers_with : ℕ → List (List ℕ) → List Given → Result (List (List ℕ)) Fault
registers_with cores registers [] = Ok registers
registers_with cores registers (g ∷ gs) = do
  core ← core_of cores g.remaining g.core
  registers_with cores (slice_set registers core (with_value (slice_index_or registers core []) g.reg g.value)) gs

-- each core's first registers; the six of a core begin as 0
abbrev pub registers_of : ℕ → List Given → Result (List (List ℕ)) Fault
registers_of cores all = registers_with cores (replicate cores (replicate 6 0)) all
