-- A proposition's truth gives its facts, and those of one of its cases.
use Rattle.possible_reads.proofs.Vocabulary.{◌≡◌, ◌&&◌, ◌||◌, ◌==◌, ℕ, Bool, true, false, not, List, [], ◌∷◌, ◌++◌, refl, ap, ◌∙◌, ◌⊎◌, inl}
use Rattle.possible_reads.proofs.Vocabulary.{inr, subst, Litmus, Candidate, IsCandidate, Sound, sound, and-both, or-either}
use Rattle.tso_terms.specs.Condition.{Claim, TruthClaim, RegClaim, LocClaim, NotClaim, AndClaim, OrClaim}
use Rattle.possible_reads.specs.Expressions.{Expression, Constant, Returned, Combined, Negated, Exchanged, register_left}
use Rattle.possible_reads.proofs.Values.{value_of}
use Rattle.possible_reads.specs.Facts.{Fact, value_facts, given_by, cases_of}
use Rattle.possible_reads.specs.Laws.{AreMet, IsOneMet, register_in, holds_in}
use Rattle.possible_reads.proofs.Lists.{at-left, at-right}
use Rattle.possible_reads.proofs.Programs.{returned_in, returns}
use Rattle.possible_reads.proofs.Ends.{register-value}

-- ---- truths

turned : (x b : Bool) → not x ≡ b → x ≡ not b
turned true b h = ap not h
turned false b h = ap not h

neither : (x y : Bool) → (x || y) ≡ false → (x ≡ false) × (y ≡ false)
neither true y h = let z : ⊥ = cc in absurd z
neither false y h = (refl, h)

not-both : (x y : Bool) → (x && y) ≡ false → (x ≡ false) ⊎ (y ≡ false)
not-both true y h = inr h
not-both false y h = inl refl

module _ (t : Litmus) (c : Candidate) (k : IsCandidate t c) where
  abbrev d : Sound t c
  d = sound t c k

  met-both : (xs ys : List Fact) → AreMet t c xs → AreMet t c ys → AreMet t c (xs ++ ys)
  met-both [] ys p q = q
  met-both (x ∷ xs) ys p q = (p.0, met-both xs ys p.1 q)

  value-met : (x : Expression) (n value : ℕ) (truth : Bool) → n ≡ value_of (returned_in t c d) x → (n == value) ≡ truth
      → AreMet t c (value_facts x value truth)
  value-met (Constant v) n value truth e h = tt
  value-met (Returned read) n value truth e h =
      ((λ r s. subst (λ m. (m == value) ≡ truth) (e ∙ returns t c d read r s) h), tt)
  value-met (Combined operator left right) n value truth e h = tt
  value-met (Negated inner) n value truth e h = tt
  value-met (Exchanged word eax new) n value truth e h = tt

  pub gives : (claim : Claim) (truth : Bool) → holds_in t c claim ≡ truth → AreMet t c (given_by t claim truth)
  gives (TruthClaim value) truth h = (h, tt)
  gives (RegClaim core reg value) truth h =
      (h, value-met (register_left t core reg) (register_in t c core reg) value truth (register-value t c d core reg) h)
  gives (LocClaim loc value) truth h = (h, tt)
  gives (NotClaim inner) truth h = gives inner (not truth) (turned (holds_in t c inner) truth h)
  gives (AndClaim left right) true h =
      let m = and-both (holds_in t c left) (holds_in t c right) h in
      met-both (given_by t left true) (given_by t right true) (gives left true m.0) (gives right true m.1)
  gives (AndClaim left right) false h = (h, tt)
  gives (OrClaim left right) true h = (h, tt)
  gives (OrClaim left right) false h =
      let m = neither (holds_in t c left) (holds_in t c right) h in
      met-both (given_by t left false) (given_by t right false) (gives left false m.0) (gives right false m.1)

  -- ---- cases

  in-first-cases : (xs ys : List (List Fact)) → IsOneMet t c xs → IsOneMet t c (xs ++ ys)
  in-first-cases xs ys o =
      let a = at-left xs ys o.number o.facts o.one in record { number = a.0; facts = o.facts; one = a.1; met = o.met }

  in-other-cases : (xs ys : List (List Fact)) → IsOneMet t c ys → IsOneMet t c (xs ++ ys)
  in-other-cases xs ys o =
      let a = at-right xs ys o.number o.facts o.one in record { number = a.0; facts = o.facts; one = a.1; met = o.met }

  alone : (facts : List Fact) → AreMet t c facts → IsOneMet t c (facts ∷ [])
  alone facts m = record { number = 0; facts = facts; one = refl; met = m }

  pub one-case : (claim : Claim) (truth : Bool) → holds_in t c claim ≡ truth → IsOneMet t c (cases_of t claim truth)
  one-case (TruthClaim value) truth h = alone (given_by t (TruthClaim value) truth) (gives (TruthClaim value) truth h)
  one-case (RegClaim core reg value) truth h =
      alone (given_by t (RegClaim core reg value) truth) (gives (RegClaim core reg value) truth h)
  one-case (LocClaim loc value) truth h = alone (given_by t (LocClaim loc value) truth) (gives (LocClaim loc value) truth h)
  one-case (NotClaim inner) truth h = one-case inner (not truth) (turned (holds_in t c inner) truth h)
  one-case (AndClaim left right) true h = alone (given_by t (AndClaim left right) true) (gives (AndClaim left right) true h)
  one-case (AndClaim left right) false h =
      go (not-both (holds_in t c left) (holds_in t c right) h) (λ e. one-case left false e) (λ e. one-case right false e)
    where
      go : (holds_in t c left ≡ false) ⊎ (holds_in t c right ≡ false) → (holds_in t c left ≡ false → IsOneMet t c (cases_of t left false))
          → (holds_in t c right ≡ false → IsOneMet t c (cases_of t right false)) → IsOneMet t c (cases_of t left false ++ cases_of t right false)
      go (inl e) f g = in-first-cases (cases_of t left false) (cases_of t right false) (f e)
      go (inr e) f g = in-other-cases (cases_of t left false) (cases_of t right false) (g e)
  one-case (OrClaim left right) true h =
      go (or-either (holds_in t c left) (holds_in t c right) h) (λ e. one-case left true e) (λ e. one-case right true e)
    where
      go : (holds_in t c left ≡ true) ⊎ (holds_in t c right ≡ true) → (holds_in t c left ≡ true → IsOneMet t c (cases_of t left true))
          → (holds_in t c right ≡ true → IsOneMet t c (cases_of t right true)) → IsOneMet t c (cases_of t left true ++ cases_of t right true)
      go (inl e) f g = in-first-cases (cases_of t left true) (cases_of t right true) (f e)
      go (inr e) f g = in-other-cases (cases_of t left true) (cases_of t right true) (g e)
  one-case (OrClaim left right) false h = alone (given_by t (OrClaim left right) false) (gives (OrClaim left right) false h)
