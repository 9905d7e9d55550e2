-- What a proposition can be, where facts are met: its truth in the candidate is among it.
use Rattle.lemma_refutations.proofs.Vocabulary.{arith, ◌≡◌, ◌==◌, ◌&&◌, ◌||◌, ℕ, Bool, true, false, not, List, [], ◌∷◌, length, Some, None}
use Rattle.lemma_refutations.proofs.Vocabulary.{refl, sym, ap, subst, list_any, Litmus, Claim, TruthClaim, RegClaim, LocClaim, NotClaim}
use Rattle.lemma_refutations.proofs.Vocabulary.{AndClaim, OrClaim, Candidate, IsAllowed, events_of, Values, can_be, same_number, Fact, From}
use Rattle.lemma_refutations.proofs.Vocabulary.{Before, Last, ReturnsValue, Holds, holds_in, register_in, word_in, IsMet, AreMet}
use Rattle.lemma_refutations.proofs.Vocabulary.{IsPossible, LastWordsArePossible, LastRegistersArePossible, Knowledge, known_from, allows}
use Rattle.lemma_refutations.proofs.Vocabulary.{is_impossible}
use Rattle.refutation_laws.proofs.Tests.{or-first, or-second, from-not, clash}
use Rattle.lemma_refutations.proofs.Lists.{any-picked, any-at}
use Rattle.refutation_laws.proofs.Vocabulary.{same-number}

-- a test that holds of a number holds of one that can be
pub can-test : (vs : Values) (n : ℕ) (p : ℕ → Bool) → IsPossible vs n → p n ≡ true → can_be vs p ≡ true
can-test None n p h q = refl
can-test (Some vs) n p h q =
    let m = any-picked (λ v. v == n) vs h in
    any-at p vs m.place m.member m.stands (subst (λ v. p v ≡ true) (sym (same-number m.member n m.holds)) q)

pub number-test : (n value : ℕ) (b : Bool) → (n == value) ≡ b → same_number b value n ≡ true
number-test n value true h = h
number-test n value false h = ap not h

module _ (words : LastWordsArePossible) (registers : LastRegistersArePossible) (t : Litmus) (c : Candidate) (allowed : IsAllowed t c)
    (facts : List Fact) (met : AreMet t c facts) where
  abbrev told : Knowledge
  told = known_from t facts

  pub claim-allowed : (claim : Claim) (truth : Bool) → holds_in t c claim ≡ truth → allows t told claim truth ≡ true
  claim-allowed (TruthClaim x) true q = q
  claim-allowed (TruthClaim x) false q = ap not q
  claim-allowed (RegClaim core reg value) truth q =
      can-test _ (register_in t c core reg) (same_number truth value) (registers t c facts (length (events_of t)) core reg allowed met)
      (number-test (register_in t c core reg) value truth q)
  claim-allowed (LocClaim loc value) truth q =
      can-test _ (word_in t c loc) (same_number truth value) (words t c facts (length (events_of t)) loc allowed met)
      (number-test (word_in t c loc) value truth q)
  claim-allowed (NotClaim inner) truth q = claim-allowed inner (not truth) (turned (holds_in t c inner) truth q)
    where
      turned : (x b : Bool) → not x ≡ b → x ≡ not b
      turned x b h = grind arith
  claim-allowed (AndClaim left right) true q =
      go (holds_in t c left) q (λ e. claim-allowed left true e) (λ e. claim-allowed right true e)
    where
      go : (x : Bool) → (x && holds_in t c right) ≡ true → (x ≡ true → allows t told left true ≡ true)
          → (holds_in t c right ≡ true → allows t told right true ≡ true) → (allows t told left true && allows t told right true) ≡ true
      go true q f g = subst (λ z. (z && allows t told right true) ≡ true) (sym (f refl)) (g q)
      go false q f g = let z : ⊥ = cc in absurd z
  claim-allowed (AndClaim left right) false q =
      go (holds_in t c left) q (λ e. claim-allowed left false e) (λ e. claim-allowed right false e)
    where
      go : (x : Bool) → (x && holds_in t c right) ≡ false → (x ≡ false → allows t told left false ≡ true)
          → (holds_in t c right ≡ false → allows t told right false ≡ true) → (allows t told left false || allows t told right false) ≡ true
      go true q f g = or-second (allows t told left false) _ (g q)
      go false q f g = or-first _ (allows t told right false) (f refl)
  claim-allowed (OrClaim left right) true q =
      go (holds_in t c left) q (λ e. claim-allowed left true e) (λ e. claim-allowed right true e)
    where
      go : (x : Bool) → (x || holds_in t c right) ≡ true → (x ≡ true → allows t told left true ≡ true)
          → (holds_in t c right ≡ true → allows t told right true ≡ true) → (allows t told left true || allows t told right true) ≡ true
      go true q f g = or-first _ (allows t told right true) (f refl)
      go false q f g = or-second (allows t told left true) _ (g q)
  claim-allowed (OrClaim left right) false q =
      go (holds_in t c left) q (λ e. claim-allowed left false e) (λ e. claim-allowed right false e)
    where
      go : (x : Bool) → (x || holds_in t c right) ≡ false → (x ≡ false → allows t told left false ≡ true)
          → (holds_in t c right ≡ false → allows t told right false ≡ true) → (allows t told left false && allows t told right false) ≡ true
      go true q f g = let z : ⊥ = cc in absurd z
      go false q f g = subst (λ z. (z && allows t told right false) ≡ true) (sym (f refl)) (g q)

  -- no fact that is met is false
  never-false : (f : Fact) → IsMet t c f → is_impossible t told f ≡ true → ⊥
  never-false (From read write truth) m h = let z : ⊥ = cc in z
  never-false (Before first second) m h = let z : ⊥ = cc in z
  never-false (Last write truth) m h = let z : ⊥ = cc in z
  never-false (ReturnsValue read value truth) m h = let z : ⊥ = cc in z
  never-false (Holds claim truth) m h = clash _ (claim-allowed claim truth m) (from-not (allows t told claim truth) h)

  pub none-false : (fs : List Fact) → AreMet t c fs → list_any (is_impossible t told) fs ≡ true → ⊥
  none-false [] m h = let z : ⊥ = cc in z
  none-false (f ∷ fs) m h = go (is_impossible t told f) refl h (λ g. none-false fs m.1 g)
    where
      go : (b : Bool) → is_impossible t told f ≡ b → (b || list_any (is_impossible t told) fs) ≡ true
          → (list_any (is_impossible t told) fs ≡ true → ⊥) → ⊥
      go true q g later = never-false f m.0 q
      go false q g later = later g
