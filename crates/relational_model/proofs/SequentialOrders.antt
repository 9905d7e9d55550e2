-- Each sequential candidate has an order that keeps all of program order: `Converse`, with program order among the edges that are kept.
use Rattle.relational_model.proofs.Vocabulary.{◌≡◌, true, List, sym, ◌⊎◌, inl, inr, subst, Litmus, is_before, KeepsAllOrder, Entry, IsIn}
use Rattle.relational_model.proofs.Vocabulary.{LeadsTo, at_once, onward, Candidate, events, IsOfASequentialExecution, ArePair}
use Rattle.relational_model.proofs.Vocabulary.{IsBeforeSequentially, po, rf, IsSequential, GoesForward}
use Rattle.relational_model.specs.SequentialModel.{co, fr}
use Rattle.relational_model.proofs.Lists.{to-precedes, at-one}
use Rattle.relational_model.proofs.Ranks.{before-irreflexive, order-of}
use Rattle.relational_model.proofs.Decisions.{either, is-true, Goes, goes}
use Rattle.relational_model.proofs.Sorting.{Decided}
use Rattle.relational_model.proofs.Events.{Sound, sound}
use Rattle.relational_model.proofs.Order.{forward-never}
use Rattle.relational_model.proofs.AfterStore.{po-after, after-store}
use Rattle.relational_model.proofs.Converse.{CanBeKept, IsKept, is-kept}
use Rattle.relational_model.proofs.SequentialFacts.{tso-allows}

-- what must go forward in an order that keeps program order
abbrev pub Step : Candidate → Entry → Entry → Type 0
Step c x y = (is_before x y ≡ true) ⊎ Goes c x y

step : (c : Candidate) → Decided (Step c)
step c x y = either (is_before x y ≡ true) (Goes c x y) (is-true (is_before x y)) (goes c x y)

sequential : (c : Candidate) (x y : Entry) → Step c x y → IsBeforeSequentially c x y
sequential c x y (inl b) = po x y b
sequential c x y (inr (inl k)) = po x y k.0
sequential c x y (inr (inr (inl e))) = rf x y e.0
sequential c x y (inr (inr (inr (inl e)))) = co x y e
sequential c x y (inr (inr (inr (inr e)))) = fr x y e

in-sequence : (es : List Entry) (c : Candidate) (x y : Entry) → LeadsTo es (Step c) x y → LeadsTo es (IsBeforeSequentially c) x y
in-sequence es c _ _ (at_once x y i j b) = at_once x y i j (sequential c x y b)
in-sequence es c _ _ (onward x y z i b rest) = onward x y z i (sequential c x y b) (in-sequence es c y z rest)

step-after : (t : Litmus) (c : Candidate) → Sound t c → IsSequential t c → (r w y : Entry) → IsIn (events t c) r
    → IsIn (events t c) w → IsIn (events t c) y → ArePair r w → r.loc.0 ≡ w.loc.0
    → (y ≡ w → ⊥) → Step c r y → Step c w y
step-after t c s a r w y i j k p same n (inl b) = inl (po-after t c s r w y j k p n b)
step-after t c s a r w y i j k p same n (inr g) = inr (after-store t c s (tso-allows t c a) r w y i j k p same n g)

-- the order keeps program order
pub keeps : (c : Candidate) (order : List Entry) → GoesForward (Step c) order → KeepsAllOrder order
keeps c order f i j x y p q b = elim (order-of i j) [
  | inl l ↦ l
  | inr (inl e) ↦ absurd (before-irreflexive x (subst (λ z. is_before x z ≡ true) (sym (at-one order i j x y p q e)) b))
  | inr (inr l) ↦
      absurd (forward-never (Step c) order x y f
      (to-precedes order y x (record { first = j; second = i; is_first = q; is_second = p; before = l })) (inl b))
]

pub step-kept : (t : Litmus) (c : Candidate) → Sound t c → IsSequential t c → CanBeKept t c (Step c)
step-kept t c s a = record {
  decided = step c;
  acyclic = λ x p. a.global x (in-sequence (events t c) c x x p);
  holds = λ x y g. inr g;
  after = λ r w y i j m p e n g. step-after t c s a r w y i j m p e n g;
}

pub is-of-a-sequential-execution : (t : Litmus) (c : Candidate) → IsSequential t c → IsOfASequentialExecution t c
is-of-a-sequential-execution t c a =
    let s = sound t c a.candidate in
    let k : IsKept t c (Step c) = is-kept t c s (tso-allows t c a) (Step c) (step-kept t c s a) in
    record {
      order = k.of.order;
      consistent = record { execution = k.of.execution; keeps = keeps c k.of.order k.forward };
      candidate = k.of.candidate;
      state = k.of.state;
    }
