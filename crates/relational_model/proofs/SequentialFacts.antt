-- Sequential consistency: the candidate of an order that keeps all of program order is sequential, and what is sequential x86-TSO allows.
use Rattle.relational_model.proofs.Vocabulary.{◌≡◌, true, List, inl, inr, Litmus, IsTsoExecution, is_before, KeepsAllOrder, Entry, IsIn}
use Rattle.relational_model.proofs.Vocabulary.{IsEarlier, LeadsTo, at_once, onward, IsAcyclic, Candidate, events, IsCandidateOf, IsAllowed}
use Rattle.relational_model.proofs.Vocabulary.{IsBeforeOnLocation, HappensBefore, IsBeforeSequentially, po, rf, IsSequential}
use Rattle.relational_model.specs.Model as model
use Rattle.relational_model.specs.SequentialModel.{co, fr}
use Rattle.relational_model.proofs.Ranks.{before-trans}
use Rattle.relational_model.proofs.Sources.{Known, earlier-trans, never-itself, source-counts, coherence-earlier, event-in}
use Rattle.relational_model.proofs.Forward.{overwritten-later, starts-in}
use Rattle.relational_model.proofs.Allowed.{Whole, is-allowed}

-- ---- from orders

module _ (t : Litmus) (order : List Entry) (c : Candidate) (known : Known t order c) (keeps : KeepsAllOrder order) where
  in-order : (x y : Entry) → IsIn order x → IsIn order y → is_before x y ≡ true → IsEarlier order x y
  in-order x y (i, p) (j, q) b = record { first = i; second = j; is_first = p; is_second = q; before = keeps i j x y p q b }

  step-forward : (x y : Entry) → IsIn order x → IsIn order y → IsBeforeSequentially c x y → IsEarlier order x y
  step-forward x y i j (po _ _ b) = in-order x y i j b
  step-forward x y i j (rf _ _ f) = elim (source-counts t order c known y x j f.read f.source).1.1 [ inl e ↦ e | inr b ↦ in-order x y i j b ]
  step-forward x y i j (co _ _ e) = coherence-earlier t order c known x.loc.0 x y e
  step-forward x y i j (fr _ _ f) = overwritten-later t order c known x y i f

  path-forward : (x z : Entry) → LeadsTo (events t c) (IsBeforeSequentially c) x z → IsEarlier order x z
  path-forward _ _ (at_once x z i j b) = step-forward x z (event-in t order c known x i) (event-in t order c known z j) b
  path-forward _ _ (onward x y z i b rest) =
      let j = starts-in (events t c) (IsBeforeSequentially c) y z rest in
      earlier-trans order x y z known.once (step-forward x y (event-in t order c known x i) (event-in t order c known y j) b)
      (path-forward y z rest)

  acyclic : IsAcyclic (events t c) (IsBeforeSequentially c)
  acyclic x p = never-itself order x known.once (path-forward x x p)

pub is-sequential : (t : Litmus) (order : List Entry) (c : Candidate) → Whole t order → IsTsoExecution t order → KeepsAllOrder order
    → IsCandidateOf t order c → IsSequential t c
is-sequential t order c whole tso keeps h =
    let a = is-allowed t order c whole tso h in
    record {
      candidate = a.candidate;
      atomic = a.atomic;
      global = acyclic t order c (record { tso = tso; of = h; once = whole.once }) keeps;
    }

-- ---- x86-TSO allows it too

on-location : (c : Candidate) (x y : Entry) → IsBeforeOnLocation c x y → IsBeforeSequentially c x y
on-location c x y (model.po_loc _ _ b s) = po x y b
on-location c x y (model.rf _ _ f) = rf x y f
on-location c x y (model.co _ _ e) = co x y e
on-location c x y (model.fr _ _ f) = fr x y f

globally : (es : List Entry) (c : Candidate) (x y : Entry) → HappensBefore es c x y → IsBeforeSequentially c x y
globally es c x y (model.write_before_write _ _ b m n) = po x y b
globally es c x y (model.read_before_access _ _ b m n) = po x y b
globally es c x y (model.mfence _ f _ i k a b) = po x y (before-trans x f y a b)
globally es c x y (model.implied _ _ b m n l) = po x y b
globally es c x y (model.rfe _ _ f n) = rf x y f
globally es c x y (model.co _ _ e) = co x y e
globally es c x y (model.fr _ _ f) = fr x y f

widened : (es : List Entry) (A B : Entry → Entry → Type 0) → ((x y : Entry) → A x y → B x y) → (x y : Entry) → LeadsTo es A x y
    → LeadsTo es B x y
widened es A B f _ _ (at_once x y i j h) = at_once x y i j (f x y h)
widened es A B f _ _ (onward x y z i h rest) = onward x y z i (f x y h) (widened es A B f y z rest)

pub tso-allows : (t : Litmus) (c : Candidate) → IsSequential t c → IsAllowed t c
tso-allows t c a = record {
  candidate = a.candidate;
  uniproc = λ x p. a.global x (widened (events t c) (IsBeforeOnLocation c) (IsBeforeSequentially c) (λ u v h. on-location c u v h) x x p);
  atomic = a.atomic;
  global = λ x p. a.global x
      (widened (events t c) (HappensBefore (events t c) c) (IsBeforeSequentially c) (λ u v h. globally (events t c) c u v h) x x p);
}
