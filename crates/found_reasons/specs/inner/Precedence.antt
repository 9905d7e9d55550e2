-- Events in a row in which nothing stands before what must precede it, as far as that is possible.
use Rattle.std.specs.Prelude.{◌≡◌, ◌+◌, ◌⊎◌, Bool, true, not, List, length}
use Rattle.std.specs.List.{list_any}
use Rattle.tso_terms.specs.declared.execution.Entry.{Entry}
use Rattle.relational_model.specs.Events.{IsIn}
use Rattle.relational_model.specs.inner.Rows.{GoesForward, Once}
use Rattle.refutation_laws.specs.Known.{events_of}
use Rattle.refutation_laws.specs.inner.Orders.{comes_toward}
use Rattle.refutations.specs.inner.Trees.{known_of, relations_of}
use Rattle.reading_tables.specs.inner.Tables.{IsTold}
use Rattle.refutation_checker.specs.inner.Branches.{knowledge_of}
use Rattle.lemma_refutations.specs.Edges.{is_edge}
use Rattle.found_reasons.specs.declared.sorting.Precedence.{Precedence}
use Rattle.found_reasons.specs.declared.sorting.Precedence.TheVariants.{Edges, Order}

abbrev pub edge_by : Precedence → Entry → Entry → Bool
edge_by (Edges told acyclic) = is_edge told.test.now (knowledge_of told) (relations_of acyclic)
edge_by (Order branch model) = comes_toward model branch.test.now (known_of branch.answers.now)

-- it is told of the events of its test
abbrev pub IsPrecedence : Precedence → Type 0
IsPrecedence (Edges told acyclic) = IsTold told
IsPrecedence (Order branch model) = branch.events.now ≡ events_of branch.test.now

-- none of these must precede x
abbrev pub is_first : (Entry → Entry → Bool) → List Entry → Entry → Bool
is_first edge xs x = not (list_any (λ y. edge y x) xs)

-- some events, in a row and in a rest of which nothing must precede the row's
pub record IsParted (edge : Entry → Entry → Bool) (some row rest : List Entry) : Type 0 where
  pub in_row : (x : Entry) → IsIn row x → IsIn some x
  pub in_rest : (x : Entry) → IsIn rest x → IsIn some x
  pub whole : (x : Entry) → IsIn some x → IsIn row x ⊎ IsIn rest x
  pub count : length row + length rest ≡ length some
  pub forward : GoesForward (λ x y. edge x y ≡ true) row
  pub never_itself : (x : Entry) → IsIn row x → edge x x ≡ true → ⊥
  pub before : (x y : Entry) → IsIn row x → IsIn rest y → edge y x ≡ true → ⊥
  -- where each of them stands there once
  pub once : Once some → Once row
  pub once_rest : Once some → Once rest
  pub apart : Once some → (x : Entry) → IsIn row x → IsIn rest x → ⊥

pub record IsSorted (edge : Entry → Entry → Bool) (some row rest : List Entry) : Type 0 where
  pub parted : IsParted edge some row rest
  -- each of the rest is preceded by one of the rest
  pub stuck : (x : Entry) → IsIn rest x → list_any (λ y. edge y x) rest ≡ true
