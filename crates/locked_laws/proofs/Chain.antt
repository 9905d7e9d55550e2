-- What follows from the turns of locked instructions: each comes directly after what its load part reads, so what comes directly
-- after one source is one instruction.
use Rattle.relational_model.proofs.Vocabulary.{◌≡◌, ℕ, zero, suc, true, List, [], ◌∷◌, ◌++◌, Option, Some, None, slice_get, arith, refl}
use Rattle.relational_model.proofs.Vocabulary.{sym, ap, ◌∙◌, ◌⊎◌, inl, inr, subst, length, Litmus, writes_to, Entry, IsIn, Candidate}
use Rattle.relational_model.proofs.Vocabulary.{events, last_in, IsAllowed, ArePair, part_of}
use Rattle.relational_model.proofs.Sources.{StandOnce}
use Rattle.relational_model.proofs.Events.{Sound, sound}
use Rattle.relational_model.proofs.Order.{stand-once, location}
use Rattle.relational_model.proofs.Pairs.{coupled, HasLoad}
use Rattle.locked_laws.specs.Turns.{TakesItsTurn, IsLoadPart, IsWrittenByLockedAlone, IsReadByLocked, LockedInstructionsTakeTurns}
use Rattle.locked_laws.specs.Turns.{NoTwoReadOneSource, SomebodyReadsTheInitialWord, EachButTheLastIsRead}

-- ---- lists

-- the place n comes directly after this source: the first place after none
abbrev pub Follows : List Entry → Option Entry → ℕ → Type 0
Follows xs None n = n ≡ 0
Follows xs (Some v) n = (i : ℕ) × ((suc i ≡ n) × (slice_get xs i ≡ Some v))

pub last-place : (xs : List Entry) (w : Entry) (ys : List Entry) → Follows (xs ++ (w ∷ ys)) (last_in xs) (length xs)
last-place [] w ys = refl
last-place (x ∷ []) w ys = (0, (refl, refl))
last-place (x ∷ (z ∷ zs)) w ys = go (last_in (z ∷ zs)) (last-place (z ∷ zs) w ys)
  where
    go : (s : Option Entry) → Follows ((z ∷ zs) ++ (w ∷ ys)) s (length (z ∷ zs)) → Follows ((x ∷ (z ∷ zs)) ++ (w ∷ ys)) s (suc (length (z ∷ zs)))
    go None h = let q : ⊥ = omega arith in absurd q
    go (Some v) (i, (e, p)) = (suc i, (ap suc e, p))

pub at-length : (xs : List Entry) (w : Entry) (ys : List Entry) → slice_get (xs ++ (w ∷ ys)) (length xs) ≡ Some w
at-length [] w ys = refl
at-length (x ∷ xs) w ys = at-length xs w ys

last-at : (xs : List Entry) (j : ℕ) (w : Entry) → slice_get xs j ≡ Some w → slice_get xs (suc j) ≡ None → last_in xs ≡ Some w
last-at [] j w p q = let z : ⊥ = cc in absurd z
last-at (x ∷ []) zero w p q = p
last-at (x ∷ []) (suc j) w p q = let z : ⊥ = cc in absurd z
last-at (x ∷ (y ∷ ys)) zero w p q = let z : ⊥ = cc in absurd z
last-at (x ∷ (y ∷ ys)) (suc j) w p q = last-at (y ∷ ys) j w p q

-- where one source comes once, what follows it is at one place
one-place : (xs : List Entry) → StandOnce xs → (s : Option Entry) (m n : ℕ) → Follows xs s m → Follows xs s n → m ≡ n
one-place xs once None m n p q = p ∙ sym q
one-place xs once (Some v) m n (i, (e, p)) (j, (f, q)) = let same : i ≡ j = once i j v p q in omega arith

-- ---- places in coherence

pub record HasPlace (t : Litmus) (c : Candidate) (r w : Entry) : Type 0 where
  pub place : ℕ
  pub stands : slice_get (c.coherence r.loc.0) place ≡ Some w
  pub follows : Follows (c.coherence r.loc.0) (c.source r) place

pub placed : (t : Litmus) (c : Candidate) (r w : Entry) → TakesItsTurn t c r w → HasPlace t c r w
placed t c r w turn = record {
  place = length turn.earlier;
  stands = subst (λ xs. slice_get xs (length turn.earlier) ≡ Some w) (sym turn.coherence) (at-length turn.earlier w turn.later);
  follows =
      subst (λ xs. Follows xs (c.source r) (length turn.earlier)) (sym turn.coherence)
      (subst (λ s. Follows (turn.earlier ++ (w ∷ turn.later)) s (length turn.earlier)) (sym turn.source)
      (last-place turn.earlier w turn.later));
}

module _ (turns : LockedInstructionsTakeTurns) (t : Litmus) (c : Candidate) (a : IsAllowed t c) where
  s : Sound t c
  s = sound t c a.candidate

  once : (loc : ℕ) → StandOnce (c.coherence loc)
  once loc = stand-once (c.coherence loc) (s.single loc)

  -- one store part is of one load part
  one-load : (r q w : Entry) → IsIn (events t c) r → IsIn (events t c) q → ArePair r w → ArePair q w → r ≡ q
  one-load r q w i j p o = s.same r q i j (p.core ∙ sym o.core) (p.place ∙ sym o.place) (ap part_of (p.read ∙ sym o.read))

  no-two : (loc : ℕ) (r q : Entry) → IsLoadPart t c loc r → IsLoadPart t c loc q → c.source r ≡ c.source q → r ≡ q
  no-two loc r q p o e = go (turns t c r a p.inside p.kind) (turns t c q a o.inside o.kind)
    where
      go : (w : Entry) × TakesItsTurn t c r w → (v : Entry) × TakesItsTurn t c q v → r ≡ q
      go (w, f) (v, g) = one-load r q w p.inside o.inside f.pair (subst (ArePair q) same g.pair)
        where
          x : HasPlace t c r w
          x = placed t c r w f

          y : HasPlace t c q v
          y = placed t c q v g

          loc-same : q.loc.0 ≡ r.loc.0
          loc-same = o.location ∙ sym p.location

          stands : slice_get (c.coherence r.loc.0) y.place ≡ Some v
          stands = subst (λ l. slice_get (c.coherence l) y.place ≡ Some v) loc-same y.stands

          follows : Follows (c.coherence r.loc.0) (c.source r) y.place
          follows = subst (λ z. Follows (c.coherence r.loc.0) z y.place) (sym e) (subst (λ l. Follows (c.coherence l) (c.source q) y.place) loc-same y.follows)

          place : y.place ≡ x.place
          place = one-place (c.coherence r.loc.0) (once r.loc.0) (c.source r) y.place x.place follows x.follows

          same : v ≡ w
          same =
              let p : slice_get (c.coherence r.loc.0) x.place ≡ Some v = subst (λ n. slice_get (c.coherence r.loc.0) n ≡ Some v) place stands in
              let q : Some v ≡ Some w = sym p ∙ x.stands in cc

  -- what the load part reads whose store part is at this place
  pub record ReadAt (loc n : ℕ) (w : Entry) : Type 0 where
    pub reader : Entry
    pub part : IsLoadPart t c loc reader
    pub pair : ArePair reader w
    pub follows : Follows (c.coherence loc) (c.source reader) n

  pub read-at : (loc n : ℕ) (w : Entry) → IsWrittenByLockedAlone t c loc → slice_get (c.coherence loc) n ≡ Some w → ReadAt loc n w
  read-at loc n w locked p = go ((coupled t c w inside.0).1 (locked w inside.0 inside.1))
    where
      inside : IsIn (events t c) w × (writes_to loc w ≡ true)
      inside = s.coherent loc w (n, p)

      go : HasLoad (events t c) w → ReadAt loc n w
      go h = with (turns t c h.other a h.inside h.pair.read)
        where
          with : (v : Entry) × TakesItsTurn t c h.other v → ReadAt loc n w
          with (v, f) = record { reader = h.other; part = record { inside = h.inside; kind = h.pair.read; location = at }; pair = h.pair; follows = follows }
            where
              same : v ≡ w
              same = s.same v w f.inside inside.0 (sym f.pair.core ∙ h.pair.core) (sym f.pair.place ∙ h.pair.place)
                  (ap part_of (f.pair.write ∙ sym h.pair.write))

              at : h.other.loc.0 ≡ loc
              at = sym f.location ∙ (ap (λ (e : Entry). e.loc.0) same ∙ location loc w inside.1)

              x : HasPlace t c h.other v
              x = placed t c h.other v f

              place : x.place ≡ n
              place = once loc x.place n w
                  (subst (λ e. slice_get (c.coherence loc) x.place ≡ Some e) same
                  (subst (λ l. slice_get (c.coherence l) x.place ≡ Some v) at x.stands)) p

              follows : Follows (c.coherence loc) (c.source h.other) n
              follows = subst (Follows (c.coherence loc) (c.source h.other)) place
                  (subst (λ l. Follows (c.coherence l) (c.source h.other) x.place) at x.follows)

  somebody : (loc : ℕ) (w : Entry) → IsWrittenByLockedAlone t c loc → IsIn (events t c) w → writes_to loc w ≡ true
      → IsReadByLocked t c loc None
  somebody loc w locked i h = go (c.coherence loc) refl (a.candidate.writes loc w i h)
    where
      none : (x : Entry) (r : ReadAt loc 0 x) (o : Option Entry) → c.source r.reader ≡ o → Follows (c.coherence loc) o 0 → IsReadByLocked t c loc None
      none x r None e f = record { reader = r.reader; part = r.part; reads = e }
      none x r (Some v) e (j, (q, p)) = let z : ⊥ = omega arith in absurd z

      go : (xs : List Entry) → c.coherence loc ≡ xs → IsIn (c.coherence loc) w → IsReadByLocked t c loc None
      go [] e (j, p) = let q : slice_get [] j ≡ Some w = subst (λ ys. slice_get ys j ≡ Some w) e p in let z : ⊥ = cc in absurd z
      go (x ∷ xs) e _ =
          let r = read-at loc 0 x locked (ap (λ ys. slice_get ys 0) e) in none x r (c.source r.reader) refl r.follows

  each : (loc : ℕ) (w : Entry) → IsWrittenByLockedAlone t c loc → IsIn (events t c) w → writes_to loc w ≡ true
      → (last_in (c.coherence loc) ≡ Some w) ⊎ IsReadByLocked t c loc (Some w)
  each loc w locked i h = go (a.candidate.writes loc w i h)
    where
      read : (j : ℕ) (x : Entry) → slice_get (c.coherence loc) j ≡ Some w → (r : ReadAt loc (suc j) x) (o : Option Entry) → c.source r.reader ≡ o
          → Follows (c.coherence loc) o (suc j) → IsReadByLocked t c loc (Some w)
      read j x p r None e f = let z : ⊥ = omega arith in absurd z
      read j x p r (Some v) e (l, (q, m)) =
          let n : l ≡ j = omega arith in
          let o : slice_get (c.coherence loc) j ≡ Some v = subst (λ k. slice_get (c.coherence loc) k ≡ Some v) n m in
          let same : Some v ≡ Some w = sym o ∙ p in
          record { reader = r.reader; part = r.part; reads = e ∙ same }

      go : IsIn (c.coherence loc) w → (last_in (c.coherence loc) ≡ Some w) ⊎ IsReadByLocked t c loc (Some w)
      go (j, p) = next (slice_get (c.coherence loc) (suc j)) refl
        where
          next : (o : Option Entry) → slice_get (c.coherence loc) (suc j) ≡ o
              → (last_in (c.coherence loc) ≡ Some w) ⊎ IsReadByLocked t c loc (Some w)
          next None e = inl (last-at (c.coherence loc) j w p e)
          next (Some v) e = inr (let r = read-at loc (suc j) v locked e in read j v p r (c.source r.reader) refl r.follows)

pub no-two-read-one-source : LockedInstructionsTakeTurns → NoTwoReadOneSource
no-two-read-one-source turns t c loc r q a p o e = no-two turns t c a loc r q p o e

pub somebody-reads-the-initial-word : LockedInstructionsTakeTurns → SomebodyReadsTheInitialWord
somebody-reads-the-initial-word turns t c loc w a locked i h = somebody turns t c a loc w locked i h

pub each-but-the-last-is-read : LockedInstructionsTakeTurns → EachButTheLastIsRead
each-but-the-last-is-read turns t c loc w a locked i h = each turns t c a loc w locked i h
