-- What `check` and `witness` print of an order: that it is valid exactly where it is a TSO execution, and else its first
-- breach; a witness choices that reach it, or the depth that it needs. (Primer, chapter 4, for the axioms.)
use Rattle.std.specs.Prelude.{ℕ, ◌≡◌, ◌≢◌, ◌↔◌, List, length}
use Rattle.tso_cli.specs.Vocabulary.{Breach, Choice, Entry, HasFault, IsFirstBreach, IsTsoExecution, LeadTo, Litmus, OrderFault, run}
use Rattle.tso_cli.specs.Vocabulary.{SpellsChoices, SpellsOrder}
use Rattle.tso_laws.specs.Depth.{needed}
use Rattle.tso_cli.specs.CheckLines.{order_refusal, valid_line, invalid_line}
use Rattle.tso_cli.specs.Lines.{depth_line}

-- what is written of an order is `Check valid` exactly where it is a TSO execution of the test, else its first breach
pub record JudgesOrder (t : Litmus) (order : List Entry) (out : List ℕ) : Type 0 where
  pub valid : out ≡ valid_line ↔ IsTsoExecution t order
  pub breach : (b : Breach) → IsFirstBreach t order b → out ≡ invalid_line t b

-- for every order that the text spells; every other text is refused by its line
pub record JudgesEachOrder (t : Litmus) (text out : List ℕ) : Type 0 where
  pub every_order : (order : List Entry) → SpellsOrder t text order → JudgesOrder t order out
  pub every_other : ((order : List Entry) → ¬ (SpellsOrder t text order))
      → (fault : OrderFault) × HasFault t text fault × (out ≡ order_refusal fault)

-- what is written of an order is choices that reach it, or the depth that it needs, or its first breach
pub data WitnessesOrder (t : Litmus) (depth : ℕ) (order : List Entry) (out : List ℕ) : Type 0 where
  -- the order is a TSO execution, and what is written spells choices under which the test ends with that very order at
  -- this depth; none stalls and none is left over
  reached : (choices : List Choice) → IsTsoExecution t order → SpellsChoices (length t.programs) out choices → LeadTo t depth choices order
      → WitnessesOrder t depth order out
  -- the order is a TSO execution, and no choices reach it at this depth
  unreached : IsTsoExecution t order → ((choices : List Choice) → (run t depth choices).commits ≢ order) → out ≡ depth_line (needed order)
      → WitnessesOrder t depth order out
  broken : (b : Breach) → IsFirstBreach t order b → out ≡ invalid_line t b → WitnessesOrder t depth order out

-- for every order that the text spells; every other text is refused
pub record WitnessesEachOrder (t : Litmus) (depth : ℕ) (text out : List ℕ) : Type 0 where
  pub every_order : (order : List Entry) → SpellsOrder t text order → WitnessesOrder t depth order out
  pub every_other : ((order : List Entry) → ¬ (SpellsOrder t text order))
      → (fault : OrderFault) × HasFault t text fault × (out ≡ order_refusal fault)
