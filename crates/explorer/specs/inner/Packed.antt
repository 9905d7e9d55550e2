-- States as strings of bytes, as a search keeps them: what is written for each, and what is read back. A state read back wrongly
-- would lead the search astray.
use Rattle.std.specs.Prelude.{ℕ, ◌≡◌, nat_lt, nat_le, if◌then◌else◌, List, [], ◌∷◌, ◌++◌, length, take, drop, zero, suc}
use Rattle.std.specs.Int.{w64, to_le_bytes, from_le_bytes}
use Rattle.tso_terms.specs.FlatMachine.{State, CoreState}
use Rattle.basic_laws.specs.Types.{Entry, Kind, R, W, F, LR, LW}
use Rattle.explorer.specs.declared.packed.Packed.{Packed}

-- ---- what is written

-- a number below 255 is one byte; before another one stands 255, and it is eight
unfoldable pub number_bytes : ℕ → List ℕ
number_bytes n = if nat_lt n 255 then n ∷ [] else 255 ∷ to_le_bytes w64 n

unfoldable pub kind_byte : Kind → ℕ
kind_byte R = 0
kind_byte W = 1
kind_byte F = 2
kind_byte LR = 3
kind_byte LW = 4

-- each one after the other
abbrev pub all_bytes : {A : Type 0} → (A → List ℕ) → List A → List ℕ
all_bytes bytes [] = []
all_bytes bytes (x ∷ xs) = bytes x ++ all_bytes bytes xs

-- how many they are, and then each
abbrev pub list_bytes : {A : Type 0} → (A → List ℕ) → List A → List ℕ
list_bytes bytes xs = number_bytes (length xs) ++ all_bytes bytes xs

abbrev pub entry_bytes : Entry → List ℕ
entry_bytes e = e.core.0 ∷ e.place ∷ kind_byte e.kind ∷ e.loc.0 ∷ number_bytes e.value

abbrev pub core_bytes : CoreState → List ℕ
core_bytes c = (c.place ∷ []) ++ all_bytes number_bytes c.registers ++ list_bytes entry_bytes c.pending

unfoldable pub state_bytes : State → List ℕ
state_bytes s = list_bytes number_bytes s.memory ++ list_bytes core_bytes s.cores

-- ---- what is read: a value from the front, and the rest; 0 where too little is left

unfoldable pub read_byte : List ℕ → ℕ × List ℕ
read_byte [] = (0, [])
read_byte (b ∷ bs) = (b, bs)

unfoldable pub read_long : List ℕ → ℕ × List ℕ
read_long bs = if nat_lt (length bs) 8 then (0, bs) else (from_le_bytes w64 (take 8 bs), drop 8 bs)

unfoldable pub read_number : List ℕ → ℕ × List ℕ
read_number [] = (0, [])
read_number (b ∷ bs) = if nat_lt b 255 then (b, bs) else read_long bs

-- a number that is too great for a word is read as 0
unfoldable pub word_or_zero : ℕ → ℕ
word_or_zero n = if nat_le n 4294967295 then n else 0

unfoldable pub read_word : List ℕ → ℕ × List ℕ
read_word bs = let n = read_number bs in (word_or_zero n.0, n.1)

unfoldable pub kind_of_byte : ℕ → Kind
kind_of_byte n = if nat_lt n 1 then R else if nat_lt n 2 then W else if nat_lt n 3 then F else if nat_lt n 4 then LR else LW

-- so many, one after the other
abbrev pub read_all : {A : Type 0} → (List ℕ → A × List ℕ) → ℕ → List ℕ → List A × List ℕ
read_all read zero bs = ([], bs)
read_all read (suc n) bs = let first = read bs in let others = read_all read n first.1 in (first.0 ∷ others.0, others.1)

-- how many they are, and then each
abbrev pub read_list : {A : Type 0} → (List ℕ → A × List ℕ) → List ℕ → List A × List ℕ
read_list read bs = let count = read_number bs in read_all read count.0 count.1

unfoldable pub read_entry : List ℕ → Entry × List ℕ
read_entry bs =
    let core = read_byte bs in
    let place = read_byte core.1 in
    let kind = read_byte place.1 in
    let loc = read_byte kind.1 in
    let value = read_word loc.1 in
    (record { core = record { 0 = core.0 }; place = place.0; kind = kind_of_byte kind.0; loc = record { 0 = loc.0 }; value = value.0 }, value.1)

unfoldable pub read_registers : List ℕ → List ℕ × List ℕ
read_registers bs = read_all read_word 6 bs

unfoldable pub read_core : List ℕ → CoreState × List ℕ
read_core bs =
    let place = read_byte bs in
    let registers = read_registers place.1 in
    let pending = read_list read_entry registers.1 in
    (record { place = place.0; registers = registers.0; pending = pending.0 }, pending.1)

unfoldable pub state_of_bytes : List ℕ → State
state_of_bytes bs =
    let memory = read_list read_word bs in
    let cores = read_list read_core memory.1 in
    record { memory = memory.0; cores = cores.0 }

abbrev pub state_of_packed : Packed → State
state_of_packed packed = state_of_bytes packed.bytes.items

-- ---- what is written is read back

-- what was written for the value was appended, and is read as the value whatever comes after it
pub record Packs {A : Type 0} (bytes : A → List ℕ) (read : List ℕ → A × List ℕ) (value : A) (old new : List ℕ) : Type 0 where
  pub appended : new ≡ old ++ bytes value
  pub read_back : (rest : List ℕ) → read (bytes value ++ rest) ≡ (value, rest)

-- the bytes are those of the state that is read
abbrev pub IsPacked : Packed → Type 0
IsPacked packed = packed.bytes.items ≡ state_bytes (state_of_packed packed)
