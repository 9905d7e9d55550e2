-- Expressions, values and facts as the code holds them, and the definitions' own that they stand for.
use Rattle.std.specs.Prelude.{Bool, false, ℕ, ◌≡◌, ◌<◌, ◌≤◌, ◌++◌, List, [], ◌∷◌, map, length, slice_index_or, Option, Some, None, Vec}
use Rattle.std.specs.Global.{Global}
use Rattle.possible_reads.specs.Possible.{Values}
use Rattle.tso_terms.specs.Litmus.{Litmus}
use Rattle.reading_tables.specs.declared.expressions.Held.{Held}
use Rattle.reading_tables.specs.declared.expressions.Making.{Making}
use Rattle.reading_tables.specs.declared.expressions.Written.{Written}
use Rattle.reading_tables.specs.declared.expressions.Walk.{Walk}
use Rattle.reading_tables.specs.declared.expressions.Expressions.{Expressions}
use Rattle.possible_reads.specs.Expressions as spec
use Rattle.possible_reads.specs.Facts as facts
use Rattle.refutation_laws.specs.Known.{same_event}
use Rattle.basic_laws.specs.Types.{Entry}
use Rattle.reading_tables.specs.declared.expressions.Held.TheVariants as held
use Rattle.reading_tables.specs.declared.expressions.Making.TheVariants as making

-- ---- what is held, and what is made of it

-- what stands where nothing was made: zero, in a form that no register gets otherwise
abbrev pub unmade : spec.Expression
unmade = spec.Negated (spec.Constant 0)

-- where these were made
abbrev pub held_of : List spec.Expression → Held → spec.Expression
held_of made (held.Number number) = spec.Constant number
held_of made (held.Returned read) = spec.Returned read
held_of made (held.Made number) = slice_index_or made number unmade

-- what is made, where these were made before
abbrev pub making_of : List spec.Expression → Making → spec.Expression
making_of made (making.Combined operator left right) = spec.Combined operator (held_of made left) (held_of made right)
making_of made (making.Negated inner) = spec.Negated (held_of made inner)
making_of made (making.Exchanged word eax new) = spec.Exchanged (held_of made word) (held_of made eax) (held_of made new)

abbrev pub made_after : List spec.Expression → List Making → List spec.Expression
made_after made [] = made
made_after made (m ∷ ms) = made_after (made ++ making_of made m ∷ []) ms

abbrev pub all_made : List Making → List spec.Expression
all_made makings = made_after [] makings

abbrev pub written_of : List spec.Expression → Written → spec.Written
written_of made x = record { write = x.write; value = held_of made x.value }

pub record AreExpressions (t : Litmus) (e : Expressions) : Type 0 where
  pub written : map (written_of (all_made e.makings.items)) e.written.items ≡ spec.written t
  pub count : length e.registers.items ≡ length t.programs
  pub registers : (core : ℕ) → core < length t.programs → map (held_of (all_made e.makings.items)) (slice_index_or e.registers.items core [])
      ≡ spec.registers_at_end core 0 (slice_index_or t.programs core []) (spec.first_registers t.registers core)

-- ---- a program that is run

-- what it holds stands for what has been made, of which there are so many
abbrev pub HasBeenMade : ℕ → Held → Type 0
HasBeenMade count (held.Number number) = Unit {0}
HasBeenMade count (held.Returned read) = Unit {0}
HasBeenMade count (held.Made number) = number < count

abbrev pub HaveBeenMade : ℕ → List Held → Type 0
HaveBeenMade count [] = Unit {0}
HaveBeenMade count (h ∷ hs) = HasBeenMade count h × HaveBeenMade count hs

abbrev pub IsMakingOfMade : ℕ → Making → Type 0
IsMakingOfMade count (making.Combined operator left right) = HasBeenMade count left × HasBeenMade count right
IsMakingOfMade count (making.Negated inner) = HasBeenMade count inner
IsMakingOfMade count (making.Exchanged word eax new) = HasBeenMade count word × (HasBeenMade count eax × HasBeenMade count new)

-- more is made, and what was made stays as it is
pub record IsMore (old new : List Making) : Type 0 where
  pub longer : length old ≤ length new
  pub kept : (h : Held) → HasBeenMade (length old) h → held_of (all_made new) h ≡ held_of (all_made old) h

pub record IsWalk (w : Walk) : Type 0 where
  pub registers : HaveBeenMade (length w.makings.items) w.registers
  pub written : HaveBeenMade (length w.makings.items) (map (λ (x : Written). x.value) w.written.items)

abbrev pub made_in : Walk → List spec.Expression
made_in w = all_made w.makings.items

abbrev pub held_registers : Walk → List spec.Expression
held_registers w = map (held_of (made_in w)) w.registers

abbrev pub told_writes : Walk → List spec.Written
told_writes w = map (written_of (made_in w)) w.written.items

-- ---- values
abbrev pub known_of : Option (Vec ℕ Global) → Values
known_of None = None
known_of (Some values) = Some values.items

-- ---- facts

-- it says of this read from what it reads, or what it returns
abbrev pub speaks_of : Entry → facts.Fact → Bool
speaks_of read (facts.From r write truth) = same_event r read
speaks_of read (facts.Returns r value truth) = same_event r read
speaks_of read _ = false

-- what a fact says of a value
abbrev pub told_of : Option ℕ → Values
told_of None = None
told_of (Some value) = Some (value ∷ [])
