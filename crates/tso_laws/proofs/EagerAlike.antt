-- A choice is eager by places, pending stores and programs alone: so it is in each of two states that differ in dead registers. And so is a
-- set of choices stubborn.
use Rattle.tso_laws.proofs.EagerVocabulary.{◌≡◌, ◌<◌, ℕ, List, Bool, true, false, length, slice_get, arith, ap, sym, ◌∙◌, subst, action_of}
use Rattle.tso_laws.proofs.EagerVocabulary.{Litmus, CoreState, State, program_of, core_of, Instr, Action, Store, Load, Move, Fence, Lock}
use Rattle.tso_laws.proofs.EagerVocabulary.{Choice, Step, Drain, Avoids, OthersAvoid, IsEagerBy, IsEager, hidden_of, AreAlike, ◌≤◌, inl}
use Rattle.tso_laws.proofs.EagerVocabulary.{inr, ChoiceSet, has_step, has_drain, IsHeldBack, away, by_drain, by_step, OthersAreHeldBack}
use Rattle.tso_laws.proofs.EagerVocabulary.{IsApartBy, IsStubborn}
use Rattle.tso_laws.proofs.Alike.{place-same, pending-same, cores-alike}

avoids-same : (loads : Bool) (l : ℕ) (p : List Instr) (s r : CoreState) → s.place ≡ r.place → s.pending ≡ r.pending → Avoids loads l p s → Avoids loads l p r
avoids-same loads l p s r q e v = record {
  coming = λ i x m at. v.coming i x (omega (arith, q, m)) at;
  pending = λ i x at. v.pending i x (ap (λ z. slice_get z i) e ∙ at);
}

module _ (t : Litmus) (hidden : List (List Bool)) (s r : State) (h : AreAlike t hidden s r) where
  place : (k : ℕ) → (core_of s k).place ≡ (core_of r k).place
  place k = place-same (program_of t k) (hidden_of hidden k) (core_of s k) (core_of r k) (cores-alike t hidden s r h k)

  pending : (k : ℕ) → (core_of s k).pending ≡ (core_of r k).pending
  pending k = pending-same (program_of t k) (hidden_of hidden k) (core_of s k) (core_of r k) (cores-alike t hidden s r h k)

  others : (loads : Bool) (l k : ℕ) → OthersAvoid loads l t s k → OthersAvoid loads l t r k
  others loads l k v j n = avoids-same loads l (program_of t j) (core_of s j) (core_of r j) (place j) (pending j) (v j n)

  by-action : (d k : ℕ) (a : Action) → IsEagerBy d t s k a → IsEagerBy d t r k a
  by-action d k (Store loc operand) w = subst (λ z. length z < d) (pending k) w
  by-action d k (Load reg loc) w = others false loc.0 k w
  by-action d k (Move change) w = tt
  by-action d k Fence w = sym (pending k) ∙ w
  by-action d k (Lock loc reg update) w = (sym (pending k) ∙ w.0, others true loc.0 k w.1)

  pub eager-alike : (d : ℕ) (e : Choice) → IsEager d t s e → IsEager d t r e
  eager-alike d (Step k) w = record {
    next = w.next;
    stands = ap (λ z. slice_get (program_of t k.0) z) (sym (place k.0)) ∙ w.stands;
    eager = by-action d k.0 (action_of w.next) w.eager;
  }
  eager-alike d (Drain k) w = record {
    oldest = w.oldest;
    later = w.later;
    pending = sym (pending k.0) ∙ w.pending;
    others = others true w.oldest.loc.0 k.0 w.others;
    buffered = w.buffered;
  }

  module _ (d : ℕ) (set : ChoiceSet) where
    held-same : (loads : Bool) (l j : ℕ)
        → IsHeldBack d loads l (program_of t j) (core_of s j) (has_step set j) (has_drain set j)
        → IsHeldBack d loads l (program_of t j) (core_of r j) (has_step set j) (has_drain set j)
    held-same loads l j (away v) = away (avoids-same loads l (program_of t j) (core_of s j) (core_of r j) (place j) (pending j) v)
    held-same loads l j (by_drain b w q) = by_drain b (w.0, w.1, ap (λ z. slice_get z w.0) (sym (pending j)) ∙ w.2, w.3) q
    held-same loads l j (by_step w q) = by_step (λ i e at. w i e (ap (λ z. slice_get z i) (pending j) ∙ at)) q

    others-held-same : (loads : Bool) (l k : ℕ) → OthersAreHeldBack d loads l t set s k → OthersAreHeldBack d loads l t set r k
    others-held-same loads l k w j n = held-same loads l j (w j n)

    held-by-same : (k : ℕ) (a : Action) → IsApartBy d t set s k a → IsApartBy d t set r k a
    held-by-same k (Store loc operand) (inl w) = inl (subst (λ z. d ≤ length z) (pending k) w.0, w.1)
    held-by-same k (Store loc operand) (inr w) = inr (w.0, sym (pending k) ∙ w.1, others-held-same true loc.0 k w.2)
    held-by-same k (Load reg loc) w = others-held-same false loc.0 k w
    held-by-same k (Move change) w = w
    held-by-same k Fence w = w
    held-by-same k (Lock loc reg update) (inl w) = inl w
    held-by-same k (Lock loc reg update) (inr w) = inr (sym (pending k) ∙ w.0, others-held-same true loc.0 k w.1)

    pub stubborn-alike : IsStubborn d t set s → IsStubborn d t set r
    stubborn-alike w = record {
      steps_apart = λ k q. let x = w.steps_apart k q in record {
        next = x.next;
        stands = ap (λ z. slice_get (program_of t k) z) (sym (place k)) ∙ x.stands;
        held = held-by-same k (action_of x.next) x.held;
      };
      drains_apart = λ k q. let x = w.drains_apart k q in record {
        oldest = x.oldest;
        later = x.later;
        pending = sym (pending k) ∙ x.pending;
        others = others-held-same true x.oldest.loc.0 k x.others;
        buffered = x.buffered;
      };
      one = w.one;
    }
