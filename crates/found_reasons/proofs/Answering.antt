-- What the facts of a branch answer: nothing at first, and with each answer one more.
use Rattle.found_reasons.proofs.Vocabulary.{◌≡◌, ◌≤◌, suc, Bool, true, false, if◌then◌else◌, List, [], ◌∷◌, ◌++◌, length, Option, Some}
use Rattle.found_reasons.proofs.Vocabulary.{arith, refl, sym, ap, ◌∙◌, subst, Litmus, Claim, is_read, is_write, Entry, IsIn, bare}
use Rattle.found_reasons.proofs.Vocabulary.{same_event, is_event, events_of, nothing, has_source, same-bare, Holds, any-holds}
use Rattle.found_reasons.proofs.Vocabulary.{IsPossibleSource, IsSound, sources_of, Fact, From, Before, Last, Returns, HoldsAtEnd, given_by}
use Rattle.found_reasons.proofs.Vocabulary.{Reading, sources_read, readings_after, Has, has-none, sources_told, pairs_told, answers_told}
use Rattle.found_reasons.proofs.Vocabulary.{given_at_first, IsBranch}
use Rattle.std.proofs.Common.{ℕ, zero, not}
use Rattle.std.specs.Prelude.{filter}
use Rattle.tso_terms.specs.Condition.{TruthClaim, RegClaim, LocClaim, NotClaim, AndClaim, OrClaim}
use Rattle.possible_reads.specs.Expressions.{Expression, Constant, Returned, Combined, Negated, Exchanged, register_left}
use Rattle.possible_reads.specs.Facts.{value_facts}
use Rattle.possible_reads.specs.Possible.{can_read_from}
use Rattle.refutation_laws.specs.inner.FullCases.{AreOfReads, ArePairsOfWrites, IsPairOfWrites}
use Rattle.refutation_laws.specs.Refutations.{asked_claim}
use Rattle.refutation_laws.specs.declared.known.Source.{Source}
use Rattle.refutation_laws.specs.declared.known.Pair.{Pair}
use Rattle.lemma_refutations.proofs.Lists.{right-at}
use Rattle.lemma_refutations.proofs.Covering.{Covers, event-bare, sources-after, possible-source}

-- ---- nothing at first

-- none of these facts is an answer
abbrev Silent : List Fact → Type 0
Silent facts = (sources_told facts ≡ []) × (pairs_told facts ≡ [])

silent-both : (fs gs : List Fact) → Silent fs → Silent gs → Silent (fs ++ gs)
silent-both [] gs s u = u
silent-both (From r w true ∷ fs) gs s u = let e = s.0 in let z : ⊥ = cc in absurd z
silent-both (From r w false ∷ fs) gs s u = silent-both fs gs s u
silent-both (Before w v ∷ fs) gs s u = let e = s.1 in let z : ⊥ = cc in absurd z
silent-both (Last w b ∷ fs) gs s u = silent-both fs gs s u
silent-both (Returns r v b ∷ fs) gs s u = silent-both fs gs s u
silent-both (HoldsAtEnd c b ∷ fs) gs s u = silent-both fs gs s u

silent-values : (e : Expression) (value : ℕ) (truth : Bool) → Silent (value_facts e value truth)
silent-values (Constant n) value truth = (refl, refl)
silent-values (Returned r) value truth = (refl, refl)
silent-values (Combined operator a b) value truth = (refl, refl)
silent-values (Negated a) value truth = (refl, refl)
silent-values (Exchanged a b c) value truth = (refl, refl)

silent-given : (t : Litmus) (claim : Claim) (truth : Bool) → Silent (given_by t claim truth)
silent-given t (TruthClaim x) truth = (refl, refl)
silent-given t (RegClaim core reg value) truth = silent-values (register_left t core reg) value truth
silent-given t (LocClaim loc value) truth = (refl, refl)
silent-given t (NotClaim inner) truth = silent-given t inner (not truth)
silent-given t (AndClaim left right) true =
    silent-both (given_by t left true) (given_by t right true) (silent-given t left true) (silent-given t right true)
silent-given t (AndClaim left right) false = (refl, refl)
silent-given t (OrClaim left right) true = (refl, refl)
silent-given t (OrClaim left right) false =
    silent-both (given_by t left false) (given_by t right false) (silent-given t left false) (silent-given t right false)

pub none-at-first : (t : Litmus) → answers_told (given_at_first t) ≡ nothing
none-at-first t =
    let s = silent-given t (asked_claim t.condition) true in
    ap (λ (ss : List Source). record { sources = ss; order = pairs_told (given_at_first t) }) s.0
    ∙ ap (λ (ps : List Pair). record { sources = []; order = ps }) s.1

pub first-branch : (t : Litmus) → IsBranch t (given_at_first t)
first-branch t = record {
  told = [];
  whole = refl;
  sound = subst (IsSound t) (sym (none-at-first t)) (record { possible = tt; single = tt; reads = tt; pairs = tt });
}

-- ---- one more

pub source-branch : (t : Litmus) (facts : List Fact) (r : Entry) (o : Option Entry) → IsBranch t facts → is_read r ≡ true
    → has_source (answers_told facts) r ≡ false → IsPossibleSource t r o → IsBranch t (From r o true ∷ facts)
source-branch t facts r o b read fresh p = record {
  told = From r o true ∷ b.told;
  whole = ap (λ fs. From r o true ∷ fs) b.whole;
  sound = record { possible = (p, b.sound.possible); single = (fresh, b.sound.single); reads = (read, b.sound.reads); pairs = b.sound.pairs };
}

pub pair-branch : (t : Litmus) (facts : List Fact) (w v : Entry) → IsBranch t facts
    → IsPairOfWrites (record { first = w; second = v }) → IsBranch t (Before w v ∷ facts)
pair-branch t facts w v b p = record {
  told = Before w v ∷ b.told;
  whole = ap (λ fs. Before w v ∷ fs) b.whole;
  sound = record { possible = b.sound.possible; single = b.sound.single; reads = b.sound.reads; pairs = (p, b.sound.pairs) };
}

-- ---- the facts hold what they answer

further : (f g : Fact) (fs : List Fact) → Has fs f → Has (g ∷ fs) f
further f g fs h = (suc h.0, h.1)

one : {A : Type 0} (x y : A) → Some x ≡ Some y → x ≡ y
one x y h = cc

source-at : (facts : List Fact) (s : Source) → Has (sources_told facts) s → Has facts (From s.read s.write true)
source-at [] s h = absurd (has-none s h)
source-at (From r w true ∷ fs) s (zero, e) =
    (0, ap (λ (q : Source). Some (From q.read q.write true)) (one (record { read = r; write = w }) s e))
source-at (From r w true ∷ fs) s (suc i, e) = further (From s.read s.write true) (From r w true) fs (source-at fs s (i, e))
source-at (From r w false ∷ fs) s h = further (From s.read s.write true) (From r w false) fs (source-at fs s h)
source-at (Before w v ∷ fs) s h = further (From s.read s.write true) (Before w v) fs (source-at fs s h)
source-at (Last w b ∷ fs) s h = further (From s.read s.write true) (Last w b) fs (source-at fs s h)
source-at (Returns r v b ∷ fs) s h = further (From s.read s.write true) (Returns r v b) fs (source-at fs s h)
source-at (HoldsAtEnd c b ∷ fs) s h = further (From s.read s.write true) (HoldsAtEnd c b) fs (source-at fs s h)

pair-at : (facts : List Fact) (p : Pair) → Has (pairs_told facts) p → Has facts (Before p.first p.second)
pair-at [] p h = absurd (has-none p h)
pair-at (From r w true ∷ fs) p h = further (Before p.first p.second) (From r w true) fs (pair-at fs p h)
pair-at (From r w false ∷ fs) p h = further (Before p.first p.second) (From r w false) fs (pair-at fs p h)
pair-at (Before w v ∷ fs) p (zero, e) =
    (0, ap (λ (q : Pair). Some (Before q.first q.second)) (one (record { first = w; second = v }) p e))
pair-at (Before w v ∷ fs) p (suc i, e) = further (Before p.first p.second) (Before w v) fs (pair-at fs p (i, e))
pair-at (Last w b ∷ fs) p h = further (Before p.first p.second) (Last w b) fs (pair-at fs p h)
pair-at (Returns r v b ∷ fs) p h = further (Before p.first p.second) (Returns r v b) fs (pair-at fs p h)
pair-at (HoldsAtEnd c b ∷ fs) p h = further (Before p.first p.second) (HoldsAtEnd c b) fs (pair-at fs p h)

read-at : (ss : List Source) → AreOfReads ss → (s : Source) → Has ss s → is_read s.read ≡ true
read-at [] reads s h = absurd (has-none s h)
read-at (q ∷ ss) reads s (zero, e) = subst (λ (x : Source). is_read x.read ≡ true) (one q s e) reads.0
read-at (q ∷ ss) reads s (suc i, e) = read-at ss reads.1 s (i, e)

write-at : (ps : List Pair) → ArePairsOfWrites ps → (p : Pair) → Has ps p → is_write p.first ≡ true
write-at [] pairs p h = absurd (has-none p h)
write-at (q ∷ ps) pairs p (zero, e) = subst (λ (x : Pair). is_write x.first ≡ true) (one q p e) pairs.0.0
write-at (q ∷ ps) pairs p (suc i, e) = write-at ps pairs.1 p (i, e)

pub covers : (t : Litmus) (facts : List Fact) → IsBranch t facts → Covers (given_at_first t) (answers_told facts) facts
covers t facts b = record {
  from_start = λ f h. subst (λ fs. Has fs f) (sym b.whole) (right-at b.told (given_at_first t) h.0 f h.1);
  sources = λ s h. (source-at facts s h, read-at (sources_told facts) b.sound.reads s h);
  pairs = λ p h. (pair-at facts p h, write-at (pairs_told facts) b.sound.pairs p h);
}

-- ---- the sources of a read: each is possible, and they are no more than those at first

fewer : {A : Type 0} (p : A → Bool) (xs : List A) → length (filter p xs) ≤ length xs
fewer p [] = omega arith
fewer p (x ∷ xs) = go (p x) (fewer p xs)
  where
    go : (b : Bool) → length (filter p xs) ≤ length xs → length (if b then x ∷ filter p xs else filter p xs) ≤ length (x ∷ xs)
    go true h = omega (arith, h)
    go false h = omega (arith, h)

fewer-sources : (t : Litmus) (facts : List Fact) (r : Entry) → IsIn (events_of t) r → is_read r ≡ true → (n : ℕ)
    → length (sources_read t (readings_after t facts n) r) ≤ length (sources_of t r)
fewer-sources t facts r i read zero = omega arith
fewer-sources t facts r i read (suc n) =
    let e = ap (λ (ss : List (Option Entry)). length ss) (sources-after t facts r i read n) in
    let f = fewer (can_read_from t facts (readings_after t facts n) r) (sources_read t (readings_after t facts n) r) in
    let g = fewer-sources t facts r i read n in
    omega (arith, e, f, g)

-- an event that is named with another value has the same sources
pub sources-bare : (t : Litmus) (table : List Reading) (r : Entry) → sources_read t table r ≡ sources_read t table (bare r)
sources-bare t [] r = refl
sources-bare t (x ∷ xs) r = ap (λ ss. if same_event x.read r then x.sources else ss) (sources-bare t xs r)

pub bare-in : (t : Litmus) (r : Entry) → is_event t r ≡ true → IsIn (events_of t) (bare r)
bare-in t r event =
    let m : Holds (events_of t) (same_event r) = any-holds (same_event r) (events_of t) event in
    subst (IsIn (events_of t)) (event-bare t m.entry m.inside ∙ sym (same-bare r m.entry m.holds)) m.inside

module _ (t : Litmus) (facts : List Fact) (r : Entry) (event : is_event t r ≡ true) (read : is_read r ≡ true) where
  abbrev pub left : List (Option Entry)
  left = sources_read t (readings_after t facts (length (events_of t))) r

  pub left-possible : (o : Option Entry) → Has left o → IsPossibleSource t r o
  left-possible o h =
      possible-source t facts (bare r) (bare-in t r event) read (length (events_of t)) o
      (subst (λ ss. Has ss o) (sources-bare t (readings_after t facts (length (events_of t))) r) h)

  pub fewer-left : length left ≤ length (sources_of t r)
  fewer-left =
      let e = ap (λ (ss : List (Option Entry)). length ss) (sources-bare t (readings_after t facts (length (events_of t))) r) in
      let f = fewer-sources t facts (bare r) (bare-in t r event) read (length (events_of t)) in
      omega (arith, e, f)
