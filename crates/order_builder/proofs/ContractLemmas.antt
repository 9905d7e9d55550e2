-- What the answer of a reader that gives its text's reading says of that text.
use Rattle.order_builder.proofs.Vocabulary.{◌≡◌, ◌≢◌, ℕ, ◌^◌, ◌<◌, List, length, Some, None, Result, Ok, Err, All, ◌⊎◌, inl, inr, refl}
use Rattle.order_builder.proofs.Vocabulary.{subst, IfOk, IfErr, Litmus, IsTest, Entry, Execution, HasAccess, IsEntryFor, IsOrderFor}
use Rattle.order_builder.proofs.Vocabulary.{SpellsOrder, HasFault, IsLocationFor, HasLocation, All-weaker, Kind, F, entries_of_order, Gives}
use Rattle.order_builder.proofs.Vocabulary.{order_of, order_start, entries_in, lines_of, OrderFault, NoOrder, BadLine, BadCount, NoMemory}
use Rattle.order_builder.proofs.SpellingLaws.{spelled_from_read, read_from_spelled}
use Rattle.order_builder.proofs.FaultLaws.{order_fault_found, order_fault_again}

pub is_found : (t : Litmus) (text : List ℕ) (r : Result Execution OrderFault)
    → length text < 2 ^ 64
    → Gives entries_of_order r (order_of t text)
    → IfOk r (λ execution. SpellsOrder t text (entries_of_order execution))
is_found t text (Ok execution) small given = spelled_from_read t text (entries_of_order execution) small given
is_found t text (Err fault) small given = tt

pub is_only : (t : Litmus) (text : List ℕ) (r : Result Execution OrderFault) → IsTest t → length text < 2 ^ 64 → Gives entries_of_order r (order_of t text)
    → (order : List Entry) → SpellsOrder t text order → Gives entries_of_order r (Ok order)
is_only t text r test small given order spells = subst (Gives entries_of_order r) (read_from_spelled t text order test small spells) given

pub is_fault : (t : Litmus) (text : List ℕ) (r : Result Execution OrderFault)
    → IsTest t
    → Gives entries_of_order r (order_of t text)
    → IfErr r (λ fault. fault ≢ NoMemory → HasFault t text fault)
is_fault t text (Ok execution) test given = tt
is_fault t text (Err NoOrder) test given = λ other. order_fault_found t text NoOrder test given
is_fault t text (Err (BadLine number)) test given = λ other. order_fault_found t text (BadLine number) test given
is_fault t text (Err BadCount) test given = λ other. order_fault_found t text BadCount test given
is_fault t text (Err NoMemory) test given = λ other. absurd (other refl)

pub is_only_fault : (t : Litmus) (text : List ℕ) (r : Result Execution OrderFault) → IsTest t → Gives entries_of_order r (order_of t text)
    → (fault : OrderFault) → HasFault t text fault → Gives entries_of_order r (Err fault)
is_only_fault t text r test given fault has = subst (Gives entries_of_order r) (order_fault_again t text fault test has) given

pub read_after : (t : Litmus) (text rest : List ℕ) (start : ℕ) (r : Result Execution OrderFault) → Some (start, lines_of rest) ≡ order_start 0 (lines_of text)
    → Gives entries_of_order r (entries_in t start 0 (lines_of rest)) → Gives entries_of_order r (order_of t text)
unfolding order_of
read_after t text rest start r at given = rw (← at) given

pub read_nowhere : (t : Litmus) (text : List ℕ) → None ≡ order_start 0 (lines_of text) → order_of t text ≡ Err NoOrder
unfolding order_of
read_nowhere t text at = rw (← at) refl

-- ---- a text and what it spells

pub spelled_once : (t : Litmus) (text : List ℕ) (order other : List Entry)
    → IsTest t
    → length text < 2 ^ 64
    → SpellsOrder t text order
    → SpellsOrder t text other
    → order ≡ other
spelled_once t text order other test small one two =
    let first = read_from_spelled t text order test small one in
    let second = read_from_spelled t text other test small two in
    cc

pub spelled_either : (t : Litmus) (text : List ℕ)
    → IsTest t
    → length text < 2 ^ 64
    → ((order : List Entry) × SpellsOrder t text order) ⊎ ((fault : OrderFault) × HasFault t text fault)
spelled_either t text test small = which (order_of t text) refl where
  which : (read : Result (List Entry) OrderFault)
      → order_of t text ≡ read
      → ((order : List Entry) × SpellsOrder t text order) ⊎ ((fault : OrderFault) × HasFault t text fault)
  which (Ok order) e = inl (order, spelled_from_read t text order small e)
  which (Err fault) e = inr (fault, order_fault_found t text fault test e)

pub spelled_never_both : (t : Litmus) (text : List ℕ) (order : List Entry) (fault : OrderFault)
    → IsTest t
    → length text < 2 ^ 64
    → SpellsOrder t text order
    → HasFault t text fault
    → ⊥
spelled_never_both t text order fault test small spells has =
    let first = read_from_spelled t text order test small spells in
    let second = order_fault_again t text fault test has in
    cc

pub one_fault : (t : Litmus) (text : List ℕ) (fault other : OrderFault) → IsTest t → HasFault t text fault → HasFault t text other → fault ≡ other
one_fault t text fault other test has has_other =
    let first = order_fault_again t text fault test has in
    let second = order_fault_again t text other test has_other in
    cc

location_for : (t : Litmus) (kind : Kind) (loc value : ℕ) → HasAccess t kind loc value → IsLocationFor t kind loc
location_for t F loc value has = tt
location_for t kind loc value has = has.0

pub all_printable : (t : Litmus) (order : List Entry) → IsOrderFor t order → All (HasLocation t) order
all_printable t order are = All-weaker (IsEntryFor t) (HasLocation t) (λ e is. location_for t e.kind e.loc.0 e.value is.access) order are
