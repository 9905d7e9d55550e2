-- The initial state, as it is read: its items one after the other, each refused where it gives a second value.
use Rattle.std.specs.Prelude.{ℕ, ◌≡◌, map, suc, ◌-◌, ◌++◌, replicate, List, [], length, slice_index_or, slice_set, Result}
use Rattle.litmus_reader.specs.Vocabulary.{Fault, index_of, Piece, Reg, Stop, with_value}
use denote.Ref.{Bor}
use Rattle.litmus_reader.specs.declared.initial.RegisterWord.{RegisterWord}
use Rattle.litmus_reader.specs.Initial.{Given, Initial, items_within}
use Rattle.litmus_reader.specs.declared.initial.Initial as code

abbrev pub given : ℕ → List ℕ → Reg → ℕ → Given
given remaining core reg value = record { remaining = remaining; core = core; reg = reg; value = value }

abbrev pub initial : List (List ℕ) → List ℕ → List Given → Initial
initial names words registers = record { names = names; words = words; registers = registers }

abbrev pub given_of : RegisterWord → Given
given_of r = given r.remaining r.core.now r.reg r.value

-- a register of a core: the core's digits, and the register's number
abbrev pub Named : Type 0
Named = List ℕ × ℕ

abbrev pub named_by_key : Bor (List ℕ) × ℕ → Named
named_by_key k = (k.0.now, k.1)

abbrev pub named_by_word : RegisterWord → Named
named_by_word r = (r.core.now, index_of r.reg)

-- the set has the registers that were given a word
abbrev pub KnowsGiven : code.Initial → Type 0
KnowsGiven i = map named_by_key i.given.keys ≡ map named_by_word i.registers.items

-- all registers, with this one's first word
abbrev pub with_register : List (List ℕ) → ℕ → Reg → ℕ → List (List ℕ)
with_register registers core reg value = slice_set registers core (with_value (slice_index_or registers core []) reg value)

-- all items, separated by `;`, and what comes after the `}`
abbrev pub items_at : ℕ → Stop → List (List ℕ) → List Piece → Result (Initial × List Piece) Fault
items_at remaining stop names ps = items_within (suc (length ps)) remaining stop (initial names [] []) ps

-- each location's first word; one that the initial state doesn't name begins as 0
abbrev pub words_of : ℕ → List ℕ → List ℕ
words_of locations words = words ++ replicate (locations - length words) 0
