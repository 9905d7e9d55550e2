-- All questions asked: each case in which every read has a source and every two writes of a location are ordered has an answer, so
-- the whole has one. A case is told by what it answers, and by facts that hold these answers.
use Rattle.lemma_refutations.proofs.Vocabulary.{◌≡◌, ◌&&◌, ◌||◌, zero, suc, Bool, true, false, not, writes, List, [], ◌∷◌, ◌++◌, length}
use Rattle.lemma_refutations.proofs.Vocabulary.{map, Option, Some, refl, sym, ap, ◌⊎◌, inl, inr, subst, Litmus, is_read, is_write}
use Rattle.lemma_refutations.proofs.Vocabulary.{writes_to, Entry, IsIn, in-case, in-none, in-first, in-later, events_of, same_event}
use Rattle.lemma_refutations.proofs.Vocabulary.{is_event, and-both, Model, Fact, From, Before, sources_read, readings, Node, AskSource}
use Rattle.lemma_refutations.proofs.Vocabulary.{Asks, known_from, is_node}
use Rattle.refutation_laws.proofs.Vocabulary.{Known, nothing, with_source, with_pair, comes_before, IsPossibleSource, ArePossible}
use Rattle.refutation_laws.proofs.Vocabulary.{has_source, are_ordered, may_ask, IsFull}
use Rattle.refutation_laws.specs.declared.known.Source.{Source}
use Rattle.refutation_laws.specs.declared.known.Pair.{Pair}
use Rattle.refutation_laws.specs.Refutations.{ComesFirst as First}
use Rattle.refutation_laws.proofs.Soundness.{itself}
use Rattle.refutation_laws.proofs.Settling.{is-event}
use Rattle.refutation_laws.proofs.Tests.{and-of, or-first, or-second}
use Rattle.lemma_refutations.proofs.Lists.{Has, has-none}
use Rattle.lemma_refutations.proofs.Covering.{Covers, possible-source}
use Rattle.lemma_refutations.proofs.Composing.{HasTrees, EachHasOne, below, has-tree}

-- what is answered in one case is answered in the other
record Grows (j k : Known) : Type 0 where
  sources : (r : Entry) → has_source j r ≡ true → has_source k r ≡ true
  order : (w v : Entry) → are_ordered j w v ≡ true → are_ordered k w v ≡ true

same : (k : Known) → Grows k k
same k = record { sources = λ r h. h; order = λ w v h. h }

after : (i j k : Known) → Grows i j → Grows j k → Grows i k
after i j k g h = record { sources = λ r a. h.sources r (g.sources r a); order = λ w v a. h.order w v (g.order w v a) }

with-source-grows : (k : Known) (r : Entry) (o : Option Entry) → Grows k (with_source k r o)
with-source-grows k r o = record { sources = λ x h. or-second (same_event r x) (has_source k x) h; order = λ w v h. h }

four : (a b c d : Bool) → (b || d) ≡ true → ((a || b) || (c || d)) ≡ true
four true b c d h = refl
four false true c d h = refl
four false false true d h = refl
four false false false d h = h

with-pair-grows : (k : Known) (w v : Entry) → Grows k (with_pair k w v)
with-pair-grows k w v = record {
  sources = λ x h. h;
  order = λ x y h. four (same_event w x && same_event v y) (comes_before k x y) (same_event w y && same_event v x) (comes_before k y x) h;
}

both-itself : (w v : Entry) → (same_event w w && same_event v v) ≡ true
both-itself w v = and-of (same_event w w) (same_event v v) (itself w) (itself v)

further : (f g : Fact) (fs : List Fact) → Has fs f → Has (g ∷ fs) f
further f g fs h = (suc h.0, h.1)

module _ (model : Model) (t : Litmus) (given : List Fact) (Other : Type 0) where
  abbrev pub Answer : List Fact → Type 0
  Answer facts = HasTrees model t (facts ∷ []) ⊎ Other

  -- the facts hold what the case answers, and that is possible
  record State (k : Known) (facts : List Fact) : Type 0 where
    covers : Covers given k facts
    possible : ArePossible t k.sources

  source-state : (k : Known) (facts : List Fact) (r : Entry) (o : Option Entry) → State k facts → is_read r ≡ true → IsPossibleSource t r o
      → State (with_source k r o) (From r o true ∷ facts)
  source-state k facts r o s read p = record {
    covers = record {
      from_start = λ f h. further f (From r o true) facts (s.covers.from_start f h);
      sources = told;
      pairs = λ q h. let p = s.covers.pairs q h in (further (Before q.first q.second) (From r o true) facts p.0, p.1);
    };
    possible = (p, s.possible);
  }
    where
      told : (q : Source) → Has (record { read = r; write = o } ∷ k.sources) q
          → Has (From r o true ∷ facts) (From q.read q.write true) × (is_read q.read ≡ true)
      told q (zero, e) = let h : record { read = r; write = o } ≡ q = of-some e in
          ((0, ap (λ (x : Source). Some (From x.read x.write true)) h), subst (λ (x : Source). is_read x.read ≡ true) h read)
        where
          of-some : {x y : Source} → Some x ≡ Some y → x ≡ y
          of-some h = cc
      told q (suc i, e) = let p = s.covers.sources q (i, e) in (further (From q.read q.write true) (From r o true) facts p.0, p.1)

  pair-state : (k : Known) (facts : List Fact) (w v : Entry) → State k facts → is_write w ≡ true → State (with_pair k w v) (Before w v ∷ facts)
  pair-state k facts w v s write = record {
    covers = record {
      from_start = λ f h. further f (Before w v) facts (s.covers.from_start f h);
      sources = λ q h. let p = s.covers.sources q h in (further (From q.read q.write true) (Before w v) facts p.0, p.1);
      pairs = told;
    };
    possible = s.possible;
  }
    where
      told : (q : Pair) → Has (record { first = w; second = v } ∷ k.order) q
          → Has (Before w v ∷ facts) (Before q.first q.second) × (is_write q.first ≡ true)
      told q (zero, e) = let h : record { first = w; second = v } ≡ q = of-some e in
          ((0, ap (λ (x : Pair). Some (Before x.first x.second)) h), subst (λ (x : Pair). is_write x.first ≡ true) h write)
        where
          of-some : {x y : Pair} → Some x ≡ Some y → x ≡ y
          of-some h = cc
      told q (suc i, e) = let p = s.covers.pairs q (i, e) in (further (Before q.first q.second) (Before w v) facts p.0, p.1)

  -- ---- one question

  one-more : (fs : List Fact) (rest : List (List Fact)) → Answer fs → EachHasOne model t rest ⊎ Other → EachHasOne model t (fs ∷ rest) ⊎ Other
  one-more fs rest (inr o) more = inr o
  one-more fs rest (inl h) (inr o) = inr o
  one-more fs rest (inl h) (inl more) = inl (h, more)

  asked : (facts : List Fact) (n : Node) → is_node model t [] (known_from t facts) n ≡ true → EachHasOne model t (below model t facts n) ⊎ Other
      → Answer facts
  asked facts n h (inl e) = inl (has-tree model t facts n h e)
  asked facts n h (inr o) = inr o

  each-source : (k : Known) (facts : List Fact) (r : Entry) → is_read r ≡ true → State k facts
      → ((o : Option Entry) → State (with_source k r o) (From r o true ∷ facts) → Answer (From r o true ∷ facts)) → (os : List (Option Entry))
      → ((o : Option Entry) → Has os o → IsPossibleSource t r o)
      → EachHasOne model t (map (λ answer. answer ++ facts) (map (λ source. From r source true ∷ []) os)) ⊎ Other
  each-source k facts r read s next [] p = inl tt
  each-source k facts r read s next (o ∷ os) p =
      one-more (From r o true ∷ facts) (map (λ answer. answer ++ facts) (map (λ source. From r source true ∷ []) os))
      (next o (source-state k facts r o s read (p o (0, refl)))) (each-source k facts r read s next os (λ q h. p q (suc h.0, h.1)))

  ask-source : (k : Known) (facts : List Fact) (r : Entry) → IsIn (events_of t) r → is_read r ≡ true → State k facts
      → ((o : Option Entry) → State (with_source k r o) (From r o true ∷ facts) → Answer (From r o true ∷ facts)) → Answer facts
  ask-source k facts r i read s next =
      asked facts (AskSource r) (and-of (is_event t r) (is_read r) (is-event t r i) read)
      (each-source k facts r read s next (sources_read t (readings t facts) r) (λ o h. possible-source t facts r i read (length (events_of t)) o h))

  ask-order : (k : Known) (facts : List Fact) (w v : Entry) → may_ask t (First w v) ≡ true → State k facts
      → ((x y : Entry) → are_ordered (with_pair k x y) w v ≡ true → State (with_pair k x y) (Before x y ∷ facts) → Answer (Before x y ∷ facts))
      → Answer facts
  ask-order k facts w v m s next =
      asked facts (Asks (Before w v)) m
      (one-more (Before w v ∷ facts) ((Before v w ∷ facts) ∷ [])
      (next w v (or-first (comes_before (with_pair k w v) w v) _ (or-first (same_event w w && same_event v v) (comes_before k w v) (both-itself w v)))
      (pair-state k facts w v s first))
      (one-more (Before v w ∷ facts) []
      (next v w (or-second (comes_before (with_pair k v w) w v) _ (or-first (same_event v v && same_event w w) (comes_before k v w) (both-itself v w)))
      (pair-state k facts v w s (writes w.loc.0 v second))) (inl tt)))
    where
      a : ((is_event t w && is_event t v && is_write w && writes_to w.loc.0 v) ≡ true) × (not (same_event w v) ≡ true)
      a = and-both _ (not (same_event w v)) m

      b : ((is_event t w && is_event t v && is_write w) ≡ true) × (writes_to w.loc.0 v ≡ true)
      b = and-both _ (writes_to w.loc.0 v) a.0

      first : is_write w ≡ true
      first = (and-both _ (is_write w) b.0).1

      second : writes_to w.loc.0 v ≡ true
      second = b.1

  -- ---- all of them

  ask-sources : (rs : List Entry) → ((r : Entry) → IsIn rs r → IsIn (events_of t) r) → (k : Known) (facts : List Fact) → State k facts
      → ((j : Known) (fs : List Fact) → State j fs → Grows k j → ((r : Entry) → IsIn rs r → is_read r ≡ true → has_source j r ≡ true) → Answer fs)
      → Answer facts
  ask-sources [] inside k facts s next = next k facts s (same k) (λ r i. absurd (in-none r i))
  ask-sources (r ∷ rs) inside k facts s next = go (is_read r) refl
      (λ j fs u f. ask-sources rs (λ x i. inside x (in-later r rs x i)) j fs u f)
    where
      go : (b : Bool) → is_read r ≡ b
          → ((j : Known) (fs : List Fact) → State j fs
          → ((i : Known) (gs : List Fact) → State i gs → Grows j i → ((x : Entry) → IsIn rs x → is_read x ≡ true → has_source i x ≡ true) → Answer gs)
          → Answer fs) → Answer facts
      go true q later =
          ask-source k facts r (inside r (in-first r rs r refl)) q s (λ o u.
          later (with_source k r o) (From r o true ∷ facts) u (λ j fs v g all.
          next j fs v (after k (with_source k r o) j (with-source-grows k r o) g) (λ x i read. elim (in-case r rs x i) [
            | inl e ↦
                subst (λ y. has_source j y ≡ true) (sym e)
                (g.sources r (or-first (same_event r r) (has_source k r) (itself r)))
            | inr l ↦ all x l read
          ])))
      go false q later =
          later k facts s (λ j fs v g all. next j fs v g (λ x i read. elim (in-case r rs x i) [
            | inl e ↦ let h : is_read r ≡ true = subst (λ y. is_read y ≡ true) e read in let z : ⊥ = cc in absurd z
            | inr l ↦ all x l read
          ]))

  ask-orders-of : (w : Entry) (vs : List Entry) (k : Known) (facts : List Fact) → State k facts
      → ((j : Known) (fs : List Fact) → State j fs → Grows k j
      → ((v : Entry) → IsIn vs v → may_ask t (First w v) ≡ true → are_ordered j w v ≡ true) → Answer fs) → Answer facts
  ask-orders-of w [] k facts s next = next k facts s (same k) (λ v i. absurd (in-none v i))
  ask-orders-of w (v ∷ vs) k facts s next = go (may_ask t (First w v)) refl (λ j fs u f. ask-orders-of w vs j fs u f)
    where
      go : (b : Bool) → may_ask t (First w v) ≡ b
          → ((j : Known) (fs : List Fact) → State j fs
          → ((i : Known) (gs : List Fact) → State i gs → Grows j i
          → ((x : Entry) → IsIn vs x → may_ask t (First w x) ≡ true → are_ordered i w x ≡ true) → Answer gs) → Answer fs) → Answer facts
      go true q later =
          ask-order k facts w v q s (λ x y ordered u.
          later (with_pair k x y) (Before x y ∷ facts) u (λ j fs p g all.
          next j fs p (after k (with_pair k x y) j (with-pair-grows k x y) g) (λ z i m. elim (in-case v vs z i) [
            | inl e ↦ subst (λ n. are_ordered j w n ≡ true) (sym e) (g.order w v ordered)
            | inr l ↦ all z l m
          ])))
      go false q later =
          later k facts s (λ j fs p g all. next j fs p g (λ z i m. elim (in-case v vs z i) [
            | inl e ↦ let h : may_ask t (First w v) ≡ true = subst (λ n. may_ask t (First w n) ≡ true) e m in let b : ⊥ = cc in absurd b
            | inr l ↦ all z l m
          ]))

  ask-orders : (ws vs : List Entry) (k : Known) (facts : List Fact) → State k facts
      → ((j : Known) (fs : List Fact) → State j fs → Grows k j
      → ((w v : Entry) → IsIn ws w → IsIn vs v → may_ask t (First w v) ≡ true → are_ordered j w v ≡ true) → Answer fs) → Answer facts
  ask-orders [] vs k facts s next = next k facts s (same k) (λ w v i. absurd (in-none w i))
  ask-orders (w ∷ ws) vs k facts s next =
      ask-orders-of w vs k facts s (λ j fs u g all.
      ask-orders ws vs j fs u (λ i gs p h more.
      next i gs p (after k j i g h) (λ x y a b m. elim (in-case w ws x a) [
        | inl e ↦
            subst (λ z. are_ordered i z y ≡ true) (sym e) (h.order w y (all y b (subst (λ z. may_ask t (First z y) ≡ true) e m)))
        | inr l ↦ more x y l b m
      ])))

  -- where each full case has an answer, the case in which nothing is known has one
  pub all-asked : ((k : Known) (facts : List Fact) → Covers given k facts → IsFull t k → Answer facts) → Answer given
  all-asked full =
      ask-sources (events_of t) (λ r i. i) nothing given
      (record {
        covers = record { from_start = λ f h. h; sources = λ q h. absurd (has-none q h); pairs = λ q h. absurd (has-none q h) };
        possible = tt;
      })
      (λ j fs u g sourced.
      ask-orders (events_of t) (events_of t) j fs u (λ k facts s h ordered.
      full k facts s.covers (record {
        possible = s.possible;
        sources = λ r i m. h.sources r (sourced r i (and-both (is_event t r) (is_read r) m).1);
        order = ordered;
      })))
