-- Which text spells which test, and which refusal every other text gets: both are what one reading gives, which goes through the
-- parts of a text in their order. Each text has one of the two, and never both.
use Rattle.std.specs.Prelude.{◌≡◌, ◌⊎◌, ℕ, List, Ok, Err}
use Rattle.litmus_reader.specs.Vocabulary.{Fault, Instructions, line_of, Litmus}
use Rattle.litmus_reader.specs.declared.fault.TextFault.{TextFault}
use Rattle.litmus_reader.specs.Reading.{reading_of}

-- the text spells this test, in this set of instructions
abbrev pub SpellsTest : Instructions → List ℕ → Litmus → Type 0
SpellsTest set text t = reading_of set text ≡ Ok t

-- this is at fault in the text, and nothing before it
abbrev pub IsFault : Instructions → List ℕ → Fault → Type 0
IsFault set text f = reading_of set text ≡ Err f

-- the text is refused so: for what is at fault in it, with the line of its place
pub record IsRefused (set : Instructions) (text : List ℕ) (refusal : TextFault) : Type 0 where
  pub at_fault : Fault
  pub is : IsFault set text at_fault
  pub line : refusal.line ≡ line_of text at_fault.remaining
  pub why : refusal.why ≡ at_fault.why

-- each text spells one test or gets one refusal, and never both
pub record IsDecided (set : Instructions) (text : List ℕ) : Type 0 where
  pub one_test : (t other : Litmus) → SpellsTest set text t → SpellsTest set text other → t ≡ other
  pub one_refusal : (refusal other : TextFault) → IsRefused set text refusal → IsRefused set text other
      → refusal ≡ other
  pub never_both : (t : Litmus) (refusal : TextFault) → SpellsTest set text t → IsRefused set text refusal
      → ⊥
  pub always : ((t : Litmus) × SpellsTest set text t) ⊎ ((refusal : TextFault) × IsRefused set text refusal)
