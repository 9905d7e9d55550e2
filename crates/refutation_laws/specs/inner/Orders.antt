-- An order of a full case: a row of its events in which each edge goes forward, with the values that its answers tell, and with each load
-- part of a locked instruction directly before its store part.
use Rattle.std.specs.Prelude.{ℕ, ◌≡◌, ◌==◌, ◌&&◌, ◌||◌, Bool, true, false, not, if◌then◌else◌, List, [], ◌∷◌, ◌++◌, map, filter, Option, Some, None}
use Rattle.std.specs.List.{list_any}
use Rattle.tso_terms.specs.Litmus.{Litmus}
use Rattle.tso_terms.specs.Thread.{entry}
use Rattle.tso_terms.specs.ProgramOrder.{is_before, may_be_passed, same_kind}
use Rattle.basic_laws.specs.Types.{Entry, LR}
use Rattle.relational_model.specs.Events.{IsIn}
use Rattle.relational_model.specs.Relations.{is_access}
use Rattle.relational_model.specs.inner.Rows.{GoesForward, Once}
use Rattle.refutation_laws.specs.Known.{Known, events_of, reads_from, comes_before, from_reads}
use Rattle.refutation_laws.specs.Edges.{are_parts}
use Rattle.refutation_laws.specs.Shown.{value_known}
use Rattle.refutation_laws.specs.declared.model.Model.{Model}
use Rattle.refutation_laws.specs.declared.model.Model.TheVariants.{Tso, Sequential}

-- ---- what must come before what

abbrev pub is_kept_by : Model → Entry → Entry → Bool
is_kept_by Tso x y = is_before x y && not (may_be_passed x y)
is_kept_by Sequential x y = is_before x y

abbrev pub must_precede : Model → Known → Entry → Entry → Bool
must_precede model k x y =
    is_kept_by model x y || ((reads_from k x y && not (x.core.0 == y.core.0)) || (comes_before k x y || from_reads k x y))

-- x must come before y, or before the load part that is put directly before it
abbrev pub comes_toward : Model → Litmus → Known → Entry → Entry → Bool
comes_toward model t k x y = must_precede model k x y || list_any (λ r. are_parts r y && must_precede model k x r) (events_of t)

abbrev pub is_load_part : Entry → Bool
is_load_part e = same_kind e.kind LR

-- all events but load parts, each once, so that nothing comes before what must precede it
pub record IsLinearExtension (model : Model) (t : Litmus) (k : Known) (row : List Entry) : Type 0 where
  pub inside : (x : Entry) → IsIn row x → IsIn (events_of t) x × (is_load_part x ≡ false)
  pub whole : (x : Entry) → IsIn (events_of t) x → is_load_part x ≡ false → IsIn row x
  pub once : Once row
  pub forward : GoesForward (λ x y. comes_toward model t k x y ≡ true) row

-- ---- the order

abbrev pub value_or_zero : Option ℕ → ℕ
value_or_zero None = 0
value_or_zero (Some v) = v

abbrev pub value_in_order : Litmus → Known → Entry → ℕ
value_in_order t k e = if is_access e then value_or_zero (value_known t k e) else 0

abbrev pub valued : Litmus → Known → Entry → Entry
valued t k e = entry e.core.0 e.place e.kind e.loc (value_in_order t k e)

-- each load part directly before its store part
abbrev pub with_loads : List Entry → List Entry → List Entry
with_loads es [] = []
with_loads es (x ∷ xs) = filter (λ r. are_parts r x) es ++ (x ∷ with_loads es xs)

abbrev pub order_along : Litmus → Known → List Entry → List Entry
order_along t k row = map (valued t k) (with_loads (events_of t) row)
