-- Events in a row in which no edge goes back.
use Rattle.std.specs.Prelude.{◌≡◌, List, [], ◌∷◌, length}
use Rattle.tso_terms.specs.declared.execution.Entry.{Entry}
use Rattle.relational_model.specs.Events.{IsIn}

-- none of these is before x
abbrev pub NonePrecedes : (Entry → Entry → Type 0) → Entry → List Entry → Type 0
NonePrecedes Before x ys = (y : Entry) → IsIn ys y → Before y x → ⊥

-- no edge goes back
abbrev pub GoesForward : (Entry → Entry → Type 0) → List Entry → Type 0
GoesForward Before [] = Unit {0}
GoesForward Before (y ∷ ys) = NonePrecedes Before y ys × GoesForward Before ys

-- the same events, put so
pub record LinearExtension (Before : Entry → Entry → Type 0) (xs : List Entry) : Type 0 where
  pub row : List Entry
  pub forward : GoesForward Before row
  pub inside : (y : Entry) → IsIn xs y → IsIn row y
  pub outside : (y : Entry) → IsIn row y → IsIn xs y
  pub count : length row ≡ length xs

-- they are in a row, and none is before itself
pub record Ordered (Before : Entry → Entry → Type 0) (xs : List Entry) : Type 0 where
  pub in_a_row : LinearExtension Before xs
  pub never_itself : (x : Entry) → IsIn xs x → Before x x → ⊥

-- no member is there again
abbrev pub Once : List Entry → Type 0
Once [] = Unit {0}
Once (x ∷ xs) = (IsIn xs x → ⊥) × Once xs
