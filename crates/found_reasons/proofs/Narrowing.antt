-- The branches that the facts leave to a question are among those of the full case's question, and weigh no more.
use Rattle.relational_model.specs.Events.{IsIn}
use Rattle.found_reasons.proofs.Vocabulary.{◌≡◌, ◌<◌, ◌≤◌, ◌+◌, ◌*◌, ◌&&◌, ℕ, suc, Bool, true, false, not, List, [], ◌∷◌, ◌++◌, length, map}
use Rattle.found_reasons.proofs.Vocabulary.{Option, None, arith, refl, sym, ap, ◌∙◌, mul-le, Litmus, is_read, is_write, writes_to, Entry}
use Rattle.found_reasons.proofs.Vocabulary.{and-both, Known, same_event, is_event, with_source, has_source, may_ask, is_answered, from-not}
use Rattle.found_reasons.proofs.Vocabulary.{same-bare, bare-same, bare, events_of, sources_of, Fact, From, Before, Last, Returns}
use Rattle.found_reasons.proofs.Vocabulary.{HoldsAtEnd, Node, ReadsFrom, ReadsValue, Asks, IsReadBy, ComesLast, HasCase, OnLocation}
use Rattle.found_reasons.proofs.Vocabulary.{Globally, Between, FalseClaim, ByLemma, readings_after, known_from, is_node, Model, below, Has}
use Rattle.found_reasons.proofs.Vocabulary.{answers_told, as_question, IsBranch, IsPossibleSource, has_no_source, is_none_left}
use Rattle.refutation_laws.specs.Refutations as full
use Rattle.found_reasons.proofs.Weighing.{weight, total, some-weight, source-weight}
use Rattle.found_reasons.proofs.Branching.{each-source, spread, as-heavy, lighter, turned}
use Rattle.found_reasons.proofs.Answering.{source-branch, pair-branch, left, left-possible, fewer-left, sources-bare, bare-in}

abbrev pub AreBranches : Litmus → List (List Fact) → Type 0
AreBranches t [] = Unit {0}
AreBranches t (facts ∷ rest) = IsBranch t facts × AreBranches t rest

-- the weight of branches
abbrev pub total_of : ℕ → Litmus → List (List Fact) → ℕ
total_of e t branches = total e t (map answers_told branches)

pub total-both : (e : ℕ) (t : Litmus) (xs ys : List (List Fact)) → total_of e t (xs ++ ys) ≡ total_of e t xs + total_of e t ys
total-both e t [] ys = omega arith
total-both e t (x ∷ xs) ys = let h = total-both e t xs ys in omega (arith, h)

pub are-both : (t : Litmus) (xs ys : List (List Fact)) → AreBranches t xs → AreBranches t ys → AreBranches t (xs ++ ys)
are-both t [] ys a b = b
are-both t (x ∷ xs) ys a b = (a.0, are-both t xs ys a.1 b)

-- ---- what a read reads from

abbrev by_sources : List Fact → Entry → List (Option Entry) → List (List Fact)
by_sources facts r os = map (λ answer. answer ++ facts) (map (λ source. From r source true ∷ []) os)

known-sources : (facts : List Fact) (r : Entry) (os : List (Option Entry))
    → map answers_told (by_sources facts r os) ≡ map (with_source (answers_told facts) r) os
known-sources facts r [] = refl
known-sources facts r (o ∷ os) = ap (λ ks. with_source (answers_told facts) r o ∷ ks) (known-sources facts r os)

source-branches : (t : Litmus) (facts : List Fact) (r : Entry) → IsBranch t facts → is_read r ≡ true → has_source (answers_told facts) r ≡ false
    → (os : List (Option Entry)) → ((o : Option Entry) → Has os o → IsPossibleSource t r o) → AreBranches t (by_sources facts r os)
source-branches t facts r b read fresh [] p = tt
source-branches t facts r b read fresh (o ∷ os) p = (
  source-branch t facts r o b read fresh (p o (0, refl)),
  source-branches t facts r b read fresh os (λ x h. p x (suc h.0, h.1)),
)

sources-weight : (e : ℕ) (t : Litmus) (facts : List Fact) (r : Entry) (event : is_event t r ≡ true) (read : is_read r ≡ true)
    → total_of e t (below t facts (ReadsFrom r)) ≤ length (sources_of t r) * weight e t (with_source (answers_told facts) r None)
sources-weight e t facts r event read =
    let k : Known = answers_told facts in
    let os : List (Option Entry) = left t facts r event read in
    let a = ap (total e t) (known-sources facts r os) ∙ each-source e t k r os in
    let b = mul-le (length os) (weight e t (with_source k r None)) (length (sources_of t r)) (weight e t (with_source k r None))
    (fewer-left t facts r event read) (omega arith) in
    omega (arith, a, b)

-- ---- an open question

other-way : (w v : Entry) → same_event w v ≡ false → same_event v w ≡ false
other-way w v h = go (same_event v w) refl
  where
    go : (b : Bool) → same_event v w ≡ b → b ≡ false
    go true q = let e : same_event w v ≡ true = bare-same w v (sym (same-bare v w q)) in let z : ⊥ = cc in absurd z
    go false q = refl

module _ (t : Litmus) (facts : List Fact) where
  abbrev MayAsk : Node → Type 0
  MayAsk q = may_ask t (as_question q) ≡ true

  abbrev IsFresh : Node → Type 0
  IsFresh q = is_answered (answers_told facts) (as_question q) ≡ false

  -- it is on a read, or on two writes
  by-question : (P : Node → Type 0) → ((r : Entry) → MayAsk (ReadsFrom r) → P (ReadsFrom r))
      → ((w v : Entry) → MayAsk (Asks (Before w v)) → P (Asks (Before w v))) → (q : Node) → MayAsk q → P q
  by-question P read order (ReadsFrom r) ask = read r ask
  by-question P read order (Asks (Before w v)) ask = order w v ask
  by-question P read order (Asks (From r o x)) ask = let z : ⊥ = cc in absurd z
  by-question P read order (Asks (Last w x)) ask = let z : ⊥ = cc in absurd z
  by-question P read order (Asks (Returns r v x)) ask = let z : ⊥ = cc in absurd z
  by-question P read order (Asks (HoldsAtEnd c x)) ask = let z : ⊥ = cc in absurd z
  by-question P read order (ReadsValue r) ask = let z : ⊥ = cc in absurd z
  by-question P read order (IsReadBy l w) ask = let z : ⊥ = cc in absurd z
  by-question P read order (ComesLast l) ask = let z : ⊥ = cc in absurd z
  by-question P read order (HasCase n) ask = let z : ⊥ = cc in absurd z
  by-question P read order (OnLocation c) ask = let z : ⊥ = cc in absurd z
  by-question P read order (Globally c) ask = let z : ⊥ = cc in absurd z
  by-question P read order (Between r v w) ask = let z : ⊥ = cc in absurd z
  by-question P read order FalseClaim ask = let z : ⊥ = cc in absurd z
  by-question P read order (ByLemma n) ask = let z : ⊥ = cc in absurd z

  read-branches : (r : Entry) → MayAsk (ReadsFrom r) → IsFresh (ReadsFrom r) → IsBranch t facts → AreBranches t (below t facts (ReadsFrom r))
  read-branches r ask fresh b =
      let m = and-both (is_event t r) (is_read r) ask in
      source-branches t facts r b m.1 fresh (left t facts r m.0 m.1) (left-possible t facts r m.0 m.1)

  order-branches : (w v : Entry) → MayAsk (Asks (Before w v)) → IsFresh (Asks (Before w v)) → IsBranch t facts
      → AreBranches t (below t facts (Asks (Before w v)))
  order-branches w v ask fresh b =
      let d = and-both (is_event t w && is_event t v && is_write w && writes_to w.loc.0 v) (not (same_event w v)) ask in
      let c = and-both (is_event t w && is_event t v && is_write w) (writes_to w.loc.0 v) d.0 in
      let a = and-both (is_event t w && is_event t v) (is_write w) c.0 in
      let apart = from-not (same_event w v) d.1 in
      let back = and-both (is_write v) (writes_to v.loc.0 w) (turned w v a.1 c.1) in
      (pair-branch t facts w v b (a.1, (c.1, apart)), (pair-branch t facts v w b (back.0, (back.1, other-way w v apart)), tt))

  pub question-branches : (q : Node) → MayAsk q → IsFresh q → IsBranch t facts → AreBranches t (below t facts q)
  question-branches = by-question (λ q. IsFresh q → IsBranch t facts → AreBranches t (below t facts q)) read-branches order-branches

  -- its branches weigh together no more than its case; where one is added to each factor, less
  abbrev IsLighter : Node → Type 0
  IsLighter q = (total_of 0 t (below t facts q) ≤ weight 0 t (answers_told facts)) × (total_of 1 t (below t facts q) < weight 1 t (answers_told facts))

  read-lighter : (r : Entry) → MayAsk (ReadsFrom r) → IsFresh (ReadsFrom r) → IsLighter (ReadsFrom r)
  read-lighter r ask fresh =
      let m = and-both (is_event t r) (is_read r) ask in
      let k : Known = answers_told facts in
      let h = source-weight 0 t k r None m.0 m.1 fresh in
      let a = sources-weight 0 t facts r m.0 m.1 in
      let b = spread 0 (length (sources_of t r)) (weight 0 t (with_source k r None)) in
      let i = source-weight 1 t k r None m.0 m.1 fresh in
      let c = sources-weight 1 t facts r m.0 m.1 in
      let d = spread 1 (length (sources_of t r)) (weight 1 t (with_source k r None)) in
      let s = some-weight 1 t (with_source k r None) in
      (omega (arith, h, a, b), omega (arith, i, c, d, s))

  order-lighter : (w v : Entry) → MayAsk (Asks (Before w v)) → IsFresh (Asks (Before w v)) → IsLighter (Asks (Before w v))
  order-lighter w v ask fresh =
      (as-heavy t (answers_told facts) (full.ComesFirst w v) ask fresh, lighter t (answers_told facts) (full.ComesFirst w v) ask fresh)

  pub question-lighter : (q : Node) → MayAsk q → IsFresh q → IsLighter q
  question-lighter = by-question (λ q. IsFresh q → IsLighter q) read-lighter order-lighter

  -- it may stand there
  pub question-stands : (model : Model) (q : Node) → MayAsk q → is_node model t [] (known_from t facts) q ≡ true
  question-stands model = by-question (λ q. is_node model t [] (known_from t facts) q ≡ true) (λ r ask. ask) (λ w v ask. ask)

  -- where each read has a source, it has an answer
  abbrev EachHasSource : Type 0
  EachHasSource = (r : Entry) → IsIn (events_of t) r → has_no_source t (known_from t facts) r ≡ false

  some-source : (a b : Bool) → a ≡ true → (a && b) ≡ false → b ≡ false
  some-source true b p q = q
  some-source false b p q = let z : ⊥ = cc in absurd z

  some-branch : (r : Entry) (os : List (Option Entry)) → is_none_left os ≡ false → by_sources facts r os ≡ [] → ⊥
  some-branch r [] p q = let z : ⊥ = cc in z
  some-branch r (o ∷ os) p q = let z : ⊥ = cc in z

  read-has-answer : (r : Entry) → MayAsk (ReadsFrom r) → EachHasSource → below t facts (ReadsFrom r) ≡ [] → ⊥
  read-has-answer r ask some e =
      let m = and-both (is_event t r) (is_read r) ask in
      let h = some-source (is_read r) (is_none_left (left t facts (bare r) (bare-event t r m.0) m.1)) m.1 (some (bare r) (bare-in t r m.0)) in
      some-branch r (left t facts r m.0 m.1)
      (ap is_none_left (sources-bare t (readings_after t facts (length (events_of t))) r) ∙ h) e
    where
      bare-event : (t : Litmus) (r : Entry) → is_event t r ≡ true → is_event t (bare r) ≡ true
      bare-event t r h = h

  order-has-answer : (w v : Entry) → MayAsk (Asks (Before w v)) → EachHasSource → below t facts (Asks (Before w v)) ≡ [] → ⊥
  order-has-answer w v ask some e = let z : ⊥ = cc in z

  pub question-has-answer : (q : Node) → MayAsk q → EachHasSource → below t facts q ≡ [] → ⊥
  question-has-answer = by-question (λ q. EachHasSource → below t facts q ≡ [] → ⊥) read-has-answer order-has-answer
