-- What is done with an open case, which is a branch of the search.
use Rattle.std.specs.Prelude.{◌≡◌, ◌&&◌, Bool, true, false, if◌then◌else◌, List, [], ◌∷◌, ◌++◌, map, Option, Some, None}
use Rattle.std.specs.List.{list_any}
use Rattle.tso_terms.specs.Litmus.{Litmus}
use Rattle.tso_terms.specs.ProgramOrder.{is_read}
use Rattle.tso_terms.specs.declared.execution.Entry.{Entry}
use Rattle.relational_model.specs.Events.{IsIn}
use Rattle.relational_model.specs.inner.Rows.{Ordered}
use Rattle.refutation_laws.specs.Known.{Known, events_of}
use Rattle.refutation_laws.specs.Edges.{on_location, global_in, are_parts}
use Rattle.refutation_laws.specs.Edges as full
use Rattle.refutation_laws.specs.Values as full_values
use Rattle.refutation_laws.specs.Refutations.{asked_claim}
use Rattle.refutation_laws.specs.Models.{IsMet}
use Rattle.refutation_laws.specs.declared.model.Model.{Model}
use Rattle.refutation_laws.specs.inner.FullCases.{may_ask, is_answered, IsFull, IsSound, NoneBetween}
use Rattle.possible_reads.specs.Facts.{Fact, given_by}
use Rattle.possible_reads.specs.Possible.{sources_read}
use Rattle.lemma_refutations.specs.Edges.{Knowledge, is_edge, is_between}
use Rattle.lemma_refutations.specs.Refutations.{known_from, is_impossible, is_node, answers}
use Rattle.lemma_refutations.specs.Refutations as spec
use Rattle.refutations.specs.inner.Trees.{node_of}
use Rattle.refutations.specs.declared.tree.Node.{Node}
use Rattle.refutations.specs.declared.tree.Node.TheVariants.{ReadsFrom, Between}
use Rattle.found_reasons.specs.inner.Answered.{answers_told, as_question, as_node}
use Rattle.found_reasons.specs.declared.reason.Step.{Step}
use Rattle.found_reasons.specs.declared.reason.Step.TheVariants.{Leaf, Question, Allowed}

-- what is given at the start: that what the test asks is true
abbrev pub given_at_first : Litmus → List Fact
given_at_first t = given_by t (asked_claim t.condition) true

-- the branches of a node, each told by its facts
abbrev pub below : Litmus → List Fact → spec.Node → List (List Fact)
below t facts n = map (λ answer. answer ++ facts) (answers t (known_from t facts) n)

-- below what is given at first, facts that answer questions of full cases
pub record IsBranch (t : Litmus) (facts : List Fact) : Type 0 where
  pub told : List Fact
  pub whole : facts ≡ told ++ given_at_first t
  pub sound : IsSound t (answers_told facts)

abbrev pub IsCaseStep : Model → Litmus → List Fact → Step → Type 0
IsCaseStep model t facts (Leaf n) =
    (is_node model t [] (known_from t facts) (as_node (node_of n)) ≡ true) × (below t facts (as_node (node_of n)) ≡ [])
IsCaseStep model t facts (Question n) =
    (may_ask t (as_question (as_node (node_of n))) ≡ true)
    × ((is_answered (answers_told facts) (as_question (as_node (node_of n))) ≡ false) × (below t facts (as_node (node_of n)) ≡ [] → ⊥))
IsCaseStep model t facts (Allowed execution) = IsMet model t (asked_claim t.condition) execution.order.items

-- the branches that are open after a step
abbrev pub AreOpenAfter : Litmus → List Fact → List (List Fact) → List (List Fact) → Step → Type 0
AreOpenAfter t facts before after (Leaf n) = after ≡ before
AreOpenAfter t facts before after (Question n) = after ≡ below t facts (as_node (node_of n)) ++ before
AreOpenAfter t facts before after (Allowed execution) = Unit {0}

-- a question that is open, or none is
abbrev pub QuestionOrFull : Litmus → Known → Option Node → Type 0
QuestionOrFull t k None = IsSound t k → IsFull t k
QuestionOrFull t k (Some n) = (may_ask t (node_of n) ≡ true) × (is_answered k (node_of n) ≡ false)

-- ---- leaves

abbrev pub is_none_left : List (Option Entry) → Bool
is_none_left [] = true
is_none_left (source ∷ rest) = false

-- a read to which no source is left
abbrev pub has_no_source : Litmus → Knowledge → Entry → Bool
has_no_source t k r = is_read r && is_none_left (sources_read t k.readings r)

abbrev pub read_of : Option Entry → Option Node
read_of None = None
read_of (Some r) = Some (ReadsFrom r)

-- no leaf closes the case: no cycle, no write between two parts, no read without a source, and what is asked can be true
pub record HasNoLeaf (model : Model) (t : Litmus) (k : Knowledge) : Type 0 where
  pub on_location : Ordered (λ x y. is_edge t k on_location x y ≡ true) (events_of t)
  pub globally : Ordered (λ x y. is_edge t k (global_in model) x y ≡ true) (events_of t)
  pub none_between : (r v w : Entry) → IsIn (events_of t) r → IsIn (events_of t) v → IsIn (events_of t) w → is_between t k r v w ≡ true → ⊥
  pub can_read : (r : Entry) → IsIn (events_of t) r → has_no_source t k r ≡ false
  pub can_be : list_any (is_impossible t k) k.facts ≡ false

abbrev pub LeafIfAny : Model → Litmus → Knowledge → Option Node → Type 0
LeafIfAny model t k (Some n) = (is_node model t [] k (as_node (node_of n)) ≡ true) × (answers t k (as_node (node_of n)) ≡ [])
LeafIfAny model t k None = HasNoLeaf model t k

-- the same of a full case, told by its answers
pub record IsAllowedCase (model : Model) (t : Litmus) (k : Known) : Type 0 where
  pub on_location : Ordered (λ x y. full.is_edge t k on_location x y ≡ true) (events_of t)
  pub globally : Ordered (λ x y. full.is_edge t k (global_in model) x y ≡ true) (events_of t)
  pub none_between : NoneBetween t k
  pub can_be : full_values.allows t k (asked_claim t.condition) true ≡ true

-- ---- a write between two parts

abbrev pub first_of_two : Option Node → Option Node → Option Node
first_of_two (Some n) rest = Some n
first_of_two None rest = rest

abbrev pub write_between_these : Litmus → Knowledge → Entry → Entry → List Entry → Option Node
write_between_these t k r w [] = None
write_between_these t k r w (v ∷ vs) = if is_between t k r v w then Some (Between r v w) else write_between_these t k r w vs

abbrev pub write_between_from : Litmus → Knowledge → Entry → List Entry → List Entry → Option Node
write_between_from t k r [] es = None
write_between_from t k r (w ∷ ws) es =
    if are_parts r w then first_of_two (write_between_these t k r w es) (write_between_from t k r ws es) else write_between_from t k r ws es

abbrev pub first_write_between : Litmus → Knowledge → List Entry → List Entry → Option Node
first_write_between t k [] es = None
first_write_between t k (r ∷ rs) es = first_of_two (write_between_from t k r es es) (first_write_between t k rs es)
