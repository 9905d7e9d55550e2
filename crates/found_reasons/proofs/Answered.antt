-- The next question may be asked and isn't answered; where there is none, the case is full.
use Rattle.found_reasons.proofs.Vocabulary.{◌≡◌, ◌&&◌, Bool, true, false, not, if◌then◌else◌, List, [], ◌∷◌, Option, Some, None, refl, sym}
use Rattle.found_reasons.proofs.Vocabulary.{ap, ◌∙◌, ◌⊎◌, inl, inr, subst, Litmus, is_read, is_write, writes_to, Entry, IsIn, in-case}
use Rattle.found_reasons.proofs.Vocabulary.{in-none, in-first, in-later, and-both, Known, events_of, same_event, is_event, has_source}
use Rattle.found_reasons.proofs.Vocabulary.{are_ordered, may_ask, is_answered, IsFull, IsSound, and-of, is-event, is_unread, is_unordered}
use Rattle.found_reasons.proofs.Vocabulary.{first_where, first_beside, pair_or, first_pair, question_of, read_or, first_unread}
use Rattle.found_reasons.proofs.Vocabulary.{next_question, from-not, QuestionOrFull}
use Rattle.refutations.specs.inner.Trees.{node_of}
use Rattle.refutations.specs.declared.tree.Node.{Node}
use Rattle.refutation_laws.specs.declared.known.Pair.{Pair}
use Rattle.refutations.specs.declared.tree.Node.TheVariants.{ReadsFrom, ComesFirst}

-- ---- the first of some

pub where-found : (p : Entry → Bool) (xs : List Entry) (x : Entry) → first_where p xs ≡ Some x → IsIn xs x × (p x ≡ true)
where-found p [] x e = let z : ⊥ = cc in absurd z
where-found p (y ∷ ys) x e = go (p y) refl e (λ f. where-found p ys x f)
  where
    go : (b : Bool) → p y ≡ b → (if b then Some y else first_where p ys) ≡ Some x
        → (first_where p ys ≡ Some x → IsIn ys x × (p x ≡ true)) → IsIn (y ∷ ys) x × (p x ≡ true)
    go true q f later = let same : y ≡ x = cc in (in-first y ys x (sym same), subst (λ z. p z ≡ true) same q)
    go false q f later = let m = later f in (in-later y ys x m.0, m.1)

pub none-where : (p : Entry → Bool) (xs : List Entry) → first_where p xs ≡ None → (x : Entry) → IsIn xs x → p x ≡ false
none-where p [] e x i = absurd (in-none x i)
none-where p (y ∷ ys) e x i = go (p y) refl e (in-case y ys x i) (λ f j. none-where p ys f x j)
  where
    go : (b : Bool) → p y ≡ b → (if b then Some y else first_where p ys) ≡ None → (x ≡ y) ⊎ IsIn ys x
        → (first_where p ys ≡ None → IsIn ys x → p x ≡ false) → p x ≡ false
    go true q f j later = let z : ⊥ = cc in absurd z
    go false q f (inl same) later = subst (λ z. p z ≡ false) (sym same) q
    go false q f (inr j) later = later f j

pair-found : (k : Known) (ws vs : List Entry) (p : Pair) → first_pair k ws vs ≡ Some p
    → IsIn ws p.first × (IsIn vs p.second × (is_unordered k p.first p.second ≡ true))
pair-found k [] vs p e = let z : ⊥ = cc in absurd z
pair-found k (w ∷ ws) vs p e = go (first_beside k w vs) refl e (λ f. pair-found k ws vs p f)
  where
    go : (o : Option Entry) → first_beside k w vs ≡ o → pair_or w o (first_pair k ws vs) ≡ Some p
        → (first_pair k ws vs ≡ Some p → IsIn ws p.first × (IsIn vs p.second × (is_unordered k p.first p.second ≡ true)))
        → IsIn (w ∷ ws) p.first × (IsIn vs p.second × (is_unordered k p.first p.second ≡ true))
    go (Some v) q f later =
        let m = where-found (is_unordered k w) vs v q in
        let same : record { first = w; second = v } ≡ p = cc in
        subst (λ (z : Pair). IsIn (w ∷ ws) z.first × (IsIn vs z.second × (is_unordered k z.first z.second ≡ true))) same
        (in-first w ws w refl, (m.0, m.1))
    go None q f later = let m = later f in (in-later w ws p.first m.0, m.1)

no-pair : (k : Known) (ws vs : List Entry) → first_pair k ws vs ≡ None → (w v : Entry) → IsIn ws w → IsIn vs v → is_unordered k w v ≡ false
no-pair k [] vs e w v i j = absurd (in-none w i)
no-pair k (x ∷ xs) vs e w v i j = go (first_beside k x vs) refl e (in-case x xs w i) (λ f l. no-pair k xs vs f w v l j)
  where
    go : (o : Option Entry) → first_beside k x vs ≡ o → pair_or x o (first_pair k xs vs) ≡ None → (w ≡ x) ⊎ IsIn xs w
        → (first_pair k xs vs ≡ None → IsIn xs w → is_unordered k w v ≡ false) → is_unordered k w v ≡ false
    go (Some y) q f l later = let z : ⊥ = cc in absurd z
    go None q f (inl same) later = subst (λ z. is_unordered k z v ≡ false) (sym same) (none-where (is_unordered k x) vs q v j)
    go None q f (inr l) later = later f l

-- ---- the next question

pub open-question : (t : Litmus) (k : Known) (q : Node) → next_question k (events_of t) ≡ Some q
    → (may_ask t (node_of q) ≡ true) × (is_answered k (node_of q) ≡ false)
open-question t k q e = go (first_unread k (events_of t)) refl (first_pair k (events_of t) (events_of t)) refl e
  where
    go : (o : Option Entry) → first_unread k (events_of t) ≡ o → (p : Option Pair) → first_pair k (events_of t) (events_of t) ≡ p
        → read_or o (question_of p) ≡ Some q → (may_ask t (node_of q) ≡ true) × (is_answered k (node_of q) ≡ false)
    go (Some r) h p g f =
        let m = where-found (is_unread k) (events_of t) r h in
        let b = and-both (is_read r) (not (has_source k r)) m.1 in
        let same : ReadsFrom r ≡ q = cc in
        subst (λ z. (may_ask t (node_of z) ≡ true) × (is_answered k (node_of z) ≡ false)) same
        (and-of (is_event t r) (is_read r) (is-event t r m.0) b.0, from-not (has_source k r) b.1)
    go None h None g f = let z : ⊥ = cc in absurd z
    go None h (Some p) g f =
        let m = pair-found k (events_of t) (events_of t) p g in
        let b = and-both (is_write p.first && writes_to p.first.loc.0 p.second && not (same_event p.first p.second))
        (not (are_ordered k p.first p.second)) m.1.1 in
        let d = and-both (is_write p.first && writes_to p.first.loc.0 p.second) (not (same_event p.first p.second)) b.0 in
        let u = and-both (is_write p.first) (writes_to p.first.loc.0 p.second) d.0 in
        let same : ComesFirst p.first p.second ≡ q = cc in
        subst (λ z. (may_ask t (node_of z) ≡ true) × (is_answered k (node_of z) ≡ false)) same (
          and-of _ (not (same_event p.first p.second))
              (and-of _ (writes_to p.first.loc.0 p.second)
              (and-of _ (is_write p.first)
              (and-of (is_event t p.first) (is_event t p.second) (is-event t p.first m.0) (is-event t p.second m.1.0)) u.0) u.1) d.1,
          from-not (are_ordered k p.first p.second) b.1,
        )

so-known : (a b : Bool) → (a && not b) ≡ false → a ≡ true → b ≡ true
so-known true true h g = refl
so-known true false h g = let z : ⊥ = cc in absurd z
so-known false b h g = let z : ⊥ = cc in absurd z

pub no-question : (t : Litmus) (k : Known) → IsSound t k → next_question k (events_of t) ≡ None → IsFull t k
no-question t k s e = go (first_unread k (events_of t)) refl (first_pair k (events_of t) (events_of t)) refl e
  where
    go : (o : Option Entry) → first_unread k (events_of t) ≡ o → (p : Option Pair) → first_pair k (events_of t) (events_of t) ≡ p
        → read_or o (question_of p) ≡ None → IsFull t k
    go (Some r) h p g f = let z : ⊥ = cc in absurd z
    go None h (Some p) g f = let z : ⊥ = cc in absurd z
    go None h None g f = record {
      possible = s.possible;
      sources = λ r i m.
          so-known (is_read r) (has_source k r) (none-where (is_unread k) (events_of t) h r i) (and-both (is_event t r) (is_read r) m).1;
      order = λ w v i j m.
          let d = and-both (is_event t w && is_event t v && is_write w && writes_to w.loc.0 v) (not (same_event w v)) m in
          let b = and-both (is_event t w && is_event t v && is_write w) (writes_to w.loc.0 v) d.0 in
          let a = and-both (is_event t w && is_event t v) (is_write w) b.0 in
          so-known (is_write w && writes_to w.loc.0 v && not (same_event w v)) (are_ordered k w v)
          (no-pair k (events_of t) (events_of t) g w v i j)
          (and-of _ (not (same_event w v)) (and-of (is_write w) (writes_to w.loc.0 v) a.1 b.1) d.1);
    }

-- a question that is open, or none is
pub question-or-full : (t : Litmus) (k : Known) (es : List Entry) → es ≡ events_of t → (o : Option Node) → o ≡ next_question k es → QuestionOrFull t k o
question-or-full t k es e (Some q) h = open-question t k q (ap (next_question k) (sym e) ∙ sym h)
question-or-full t k es e None h = λ s. no-question t k s (ap (next_question k) (sym e) ∙ sym h)
