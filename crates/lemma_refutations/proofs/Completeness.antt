-- Each claim has a refutation, or an allowed candidate makes it true.
use Rattle.lemma_refutations.proofs.Vocabulary.{◌≡◌, Bool, true, false, List, [], ◌∷◌, ◌++◌, map, Candidate, length, refl, sym, ap, ◌⊎◌}
use Rattle.lemma_refutations.proofs.Vocabulary.{inl, inr, subst, list_any, Litmus, Claim, truth_of, NamesExist, Entry, IsIn, events_of}
use Rattle.lemma_refutations.proofs.Vocabulary.{on_location, global_in, registers_left, words_left, Model, HasCandidate, Fact, given_by}
use Rattle.lemma_refutations.proofs.Vocabulary.{LastWordsArePossible, Knowledge, known_from, is_edge, is_between, allows, is_impossible}
use Rattle.lemma_refutations.proofs.Vocabulary.{Node, OnLocation, Globally, Between, FalseClaim, is_node, answers, IsRefuted}
use Rattle.refutation_laws.proofs.Vocabulary.{Known, IsFull, NoneBetween}
use Rattle.refutation_laws.proofs.Tests.{any-in, any-holds, clash}
use Rattle.refutation_laws.proofs.Soundness.{as-tso}
use Rattle.refutation_laws.proofs.Rows.{HasCycle, Edge, cycle-or-row}
use Rattle.refutation_laws.proofs.Determined.{HaveSix}
use Rattle.refutation_laws.proofs.Settling.{is-event, IsOpen, own_candidate}
use Rattle.refutation_laws.proofs.Allowing.{is-allowed}
use Rattle.relational_model.specs.inner.Rows.{Ordered}
use Rattle.lemma_refutations.proofs.Lists.{any-picked, any-at}
use Rattle.lemma_refutations.proofs.Covering.{Covers}
use Rattle.lemma_refutations.proofs.Telling.{between-told, ordered-told}
use Rattle.lemma_refutations.proofs.Exactness.{claim-exact, false-part}
use Rattle.lemma_refutations.proofs.Composing.{HasTrees, EachHasOne, has-tree}
use Rattle.lemma_refutations.proofs.Asking.{Answer, all-asked}

-- ---- three events that pass a test

record AreThere (p : Entry → Entry → Entry → Bool) (es : List Entry) : Type 0 where
  first : Entry
  second : Entry
  third : Entry
  pass : p first second third ≡ true

abbrev NoneAre : (Entry → Entry → Entry → Bool) → List Entry → Type 0
NoneAre p es = (x y z : Entry) → IsIn es x → IsIn es y → IsIn es z → p x y z ≡ true → ⊥

none-any : (p : Entry → Bool) (xs : List Entry) (x : Entry) → list_any p xs ≡ false → IsIn xs x → p x ≡ true → ⊥
none-any p xs x h i q = clash _ (any-in p xs x i q) h

three-or-none : (p : Entry → Entry → Entry → Bool) (es : List Entry) → AreThere p es ⊎ NoneAre p es
three-or-none p es = go (list_any (λ x. list_any (λ y. list_any (λ z. p x y z) es) es) es) refl
  where
    go : (b : Bool) → list_any (λ x. list_any (λ y. list_any (λ z. p x y z) es) es) es ≡ b → AreThere p es ⊎ NoneAre p es
    go true q =
        let x = any-holds (λ x. list_any (λ y. list_any (λ z. p x y z) es) es) es q in
        let y = any-holds (λ y. list_any (λ z. p x.entry y z) es) es x.holds in
        let z = any-holds (λ z. p x.entry y.entry z) es y.holds in
        inl (record { first = x.entry; second = y.entry; third = z.entry; pass = z.holds })
    go false q = inr (λ x y z i j l h.
        none-any (λ x. list_any (λ y. list_any (λ z. p x y z) es) es) es x q i
        (any-in (λ y. list_any (λ z. p x y z) es) es y j (any-in (λ z. p x y z) es z l h)))

-- ---- a full case: one of the four leaves, or its candidate

module _ (words : LastWordsArePossible) (model : Model) (t : Litmus) (claim : Claim) (names : NamesExist (length t.programs) (length t.words) claim)
    (six : HaveSix 0 (length t.programs) t.registers) where
  abbrev given : List Fact
  given = given_by t claim true

  abbrev Answered : List Fact → Type 0
  Answered facts = Answer model t given (HasCandidate model t claim) facts

  leaf : (facts : List Fact) (n : Node)
      → answers t (known_from t facts) n ≡ []
      → is_node model t [] (known_from t facts) n ≡ true
      → HasTrees model t (facts ∷ [])
  leaf facts n e h =
      has-tree model t facts n h (subst (EachHasOne model t) (sym (ap (λ xs. map (λ answer. answer ++ facts) xs) e)) tt)

  module _ (k : Known) (facts : List Fact) (covers : Covers given k facts) where
    abbrev told : Knowledge
    told = known_from t facts

    by-claim : (o : IsOpen model t k) → NoneBetween t k → Answered facts
    by-claim o none = go (truth_of (registers_left t c) (words_left t c) claim) refl
      where
        c : Candidate
        c = own_candidate model t k o

        go : (b : Bool) → truth_of (registers_left t c) (words_left t c) claim ≡ b → Answered facts
        go true q = inr (record { candidate = c; allowed = is-allowed model t k o none; holds = q })
        go false q = inl (leaf facts FalseClaim refl (some-false (allows t told claim true) refl))
          where
            some-false : (b : Bool) → allows t told claim true ≡ b → list_any (is_impossible t told) facts ≡ true
            some-false true h =
                absurd (clash _ (claim-exact words model t k o (as-tso model t c (is-allowed model t k o none)) given facts covers claim names true h) q)
            some-false false h =
                let m = any-picked (is_impossible t told) given (false-part t told claim true h) in
                let i = covers.from_start m.member (m.place, m.stands) in
                any-at (is_impossible t told) facts i.0 m.member i.1 m.holds

    by-parts : (o : IsOpen model t k) → AreThere (is_between t told) (events_of t) ⊎ NoneAre (is_between t told) (events_of t) → Answered facts
    by-parts o (inl b) = inl (leaf facts (Between b.first b.second b.third) refl b.pass)
    by-parts o (inr none) = by-claim o (λ r v w i j l h. none r v w i j l (between-told t given k facts covers r v w i h))

    by-ghb : IsFull t k → Ordered (Edge (is_edge t told on_location)) (events_of t)
        → HasCycle t (is_edge t told (global_in model)) ⊎ Ordered (Edge (is_edge t told (global_in model))) (events_of t) → Answered facts
    by-ghb f l (inl c) = inl (leaf facts (Globally c.cycle) refl c.is_cycle)
    by-ghb f l (inr g) =
        by-parts (record {
          full = f;
          six = six;
          within_locations = ordered-told t given k facts covers on_location l;
          globally = ordered-told t given k facts covers (global_in model) g;
        }) (three-or-none (is_between t told) (events_of t))

    by-uniproc : IsFull t k → HasCycle t (is_edge t told on_location) ⊎ Ordered (Edge (is_edge t told on_location)) (events_of t) → Answered facts
    by-uniproc f (inl c) = inl (leaf facts (OnLocation c.cycle) refl c.is_cycle)
    by-uniproc f (inr l) = by-ghb f l (cycle-or-row t (is_edge t told (global_in model)) (is-event t))

    full-answer : IsFull t k → Answered facts
    full-answer f = by-uniproc f (cycle-or-row t (is_edge t told on_location) (is-event t))

  -- the theorem
  pub refuted-or-candidate : IsRefuted model t claim ⊎ HasCandidate model t claim
  refuted-or-candidate = elim (all-asked model t given (HasCandidate model t claim) full-answer) [
    | inl h ↦ inl (record { lemmas = []; tree = h.nodes; refuted = h.closed })
    | inr m ↦ inr m
  ]
