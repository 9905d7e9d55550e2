-- What the crates below say of texts and orders, put together: each is read in one way.
use Rattle.std.specs.Prelude.{ℕ, ◌≡◌, ◌<◌, ◌≤◌, ◌^◌, List, length}
use Rattle.tso_cli.specs.Vocabulary.{Breach, Entry, HasFault, Instructions, IsDecidedAsChoices, IsFirstBreach, IsTest, IsTsoExecution}
use Rattle.tso_cli.specs.Vocabulary.{Litmus, OrderFault, SpellsOrder, TextFault}
use Rattle.litmus_reader.specs.Limits.{longest_text}
use Rattle.litmus_reader.specs.Spelling.{SpellsTest, IsRefused as IsRefusedTest}

pub record AreReadOneWay : Type 0 where
  -- a text spells one test, which is within the limits, or gets one refusal
  pub one_test : (set : Instructions) (text : List ℕ) (t other : Litmus) → SpellsTest set text t → SpellsTest set text other → t ≡ other
  pub refused_or_not : (set : Instructions) (text : List ℕ) (t : Litmus) (fault : TextFault) → SpellsTest set text t → IsRefusedTest set text fault → ⊥
  pub one_refusal : (set : Instructions) (text : List ℕ) (fault other : TextFault) → IsRefusedTest set text fault → IsRefusedTest set text other → fault ≡ other
  pub test : (set : Instructions) (text : List ℕ) (t : Litmus) → SpellsTest set text t → IsTest t
  pub short : (set : Instructions) (text : List ℕ) (t : Litmus) → SpellsTest set text t → length text ≤ longest_text
  -- a text spells one list of choices, or gets one refusal
  pub decided : (cores : ℕ) (text : List ℕ) → 0 < cores → IsDecidedAsChoices cores text
  -- a text spells one order of a test, or has one fault
  pub once : (t : Litmus) (text : List ℕ) (order other : List Entry) → IsTest t → length text < 2 ^ 64
      → SpellsOrder t text order → SpellsOrder t text other → order ≡ other
  pub never_both : (t : Litmus) (text : List ℕ) (order : List Entry) (fault : OrderFault) → IsTest t → length text < 2 ^ 64
      → SpellsOrder t text order → HasFault t text fault → ⊥
  pub one_fault : (t : Litmus) (text : List ℕ) (fault other : OrderFault) → IsTest t
      → HasFault t text fault → HasFault t text other → fault ≡ other
  -- an order has one first breach at most, and none where it is a TSO execution
  pub one : (t : Litmus) (order : List Entry) (b c : Breach) → IsFirstBreach t order b → IsFirstBreach t order c → b ≡ c
  pub real : (t : Litmus) (order : List Entry) (b : Breach) → IsFirstBreach t order b → ¬ IsTsoExecution t order
