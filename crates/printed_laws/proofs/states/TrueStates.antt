-- `True` has the numbers of the states in which a claim is true, and no others.
use Rattle.printed_laws.proofs.Vocabulary.{◌≡◌, ◌∙◌, inl, inr, ◌<◌, ◌≤◌, ◌+◌, ℕ, zero, suc, Bool, true, false, cond, List, [], ◌∷◌, length}
use Rattle.printed_laws.proofs.Vocabulary.{Contains, Some, refl, sym, ap, subst, arith, Claim, truth_of, names_shown, values_at, Outcome}
use Rattle.printed_laws.proofs.Vocabulary.{shown_values, true_from, true_in, holds_in, TruthIsShown, EndsInNumbers, TrueNamesTrueStates}
use Rattle.printed_laws.proofs.Vocabulary.{HoldsTellsTrueStates}
use Rattle.std.specs.List.{slice_get}
use Rattle.std.proofs.lemmas.Option.{slice_get_within, get_or_from_slice_get}
use Rattle.search_report.proofs.Members.{Member, to-member, member-place}
use Rattle.printed_laws.proofs.states.LastLines.{numbers-end}

from-member : {X : Type 0} (x : X) (xs : List X) → Member x xs → Contains xs x
from-member x xs m =
    let place = member-place x xs m in
    (place.0, slice_get_within xs place.0 x place.1, get_or_from_slice_get xs place.0 x x place.1)

abbrev truth_in : Claim → Outcome → Bool
truth_in claim o = truth_of o.registers o.memory claim

-- what a number of the list says, where the first state has the number n
record IsOne (claim : Claim) (n : ℕ) (outcomes : List Outcome) (k : ℕ) : Type 0 where
  low : n ≤ k
  high : k < n + length outcomes
  holds : (i : ℕ) (o : Outcome) → slice_get outcomes i ≡ Some o → k ≡ i + n → truth_in claim o ≡ true

later : (claim : Claim) (n : ℕ) (o : Outcome) (rest : List Outcome) (k : ℕ) → IsOne claim (n + 1) rest k → IsOne claim n (o ∷ rest) k
later claim n o rest k one = record {
  low = let low = one.low in omega (arith, low);
  high = let high = one.high in omega (arith, high);
  holds = holds;
}
  where
    holds : (i : ℕ) (p : Outcome) → slice_get (o ∷ rest) i ≡ Some p → k ≡ i + n → truth_in claim p ≡ true
    holds zero p stands is = absurd (let low = one.low in omega (arith, low, is))
    holds (suc i) p stands is = one.holds i p stands (omega (arith, is))

named-is-one : (claim : Claim) (n : ℕ) (outcomes : List Outcome) (k : ℕ) → Member k (true_from n claim outcomes) → IsOne claim n outcomes k
named-is-one claim n [] k m = absurd m
named-is-one claim n (o ∷ rest) k m = by (truth_in claim o) refl m (named-is-one claim (n + 1) rest k)
  where
    by : (b : Bool) → truth_in claim o ≡ b → Member k (cond b (n ∷ true_from (n + 1) claim rest) (true_from (n + 1) claim rest))
        → (Member k (true_from (n + 1) claim rest) → IsOne claim (n + 1) rest k) → IsOne claim n (o ∷ rest) k
    by true so (inl here) further = record { low = omega (arith, here); high = omega (arith, here); holds = holds }
      where
        holds : (i : ℕ) (p : Outcome) → slice_get (o ∷ rest) i ≡ Some p → k ≡ i + n → truth_in claim p ≡ true
        holds zero p stands is = let same : o ≡ p = cc in ap (truth_in claim) (sym same) ∙ so
        holds (suc i) p stands is = absurd (omega (arith, here, is))
    by true so (inr m) further = later claim n o rest k (further m)
    by false isnt m further = later claim n o rest k (further m)

one-is-named : (claim : Claim) (n : ℕ) (outcomes : List Outcome) (i : ℕ) (o : Outcome)
    → slice_get outcomes i ≡ Some o
    → truth_in claim o ≡ true
    → Member (i + n) (true_from n claim outcomes)
one-is-named claim n [] i o stands so = absurd (let no : ⊥ = cc in no)
one-is-named claim n (p ∷ rest) zero o stands so =
    let same : p ≡ o = cc in
    let here : truth_in claim p ≡ true = ap (truth_in claim) same ∙ so in
    let first : 0 + n ≡ n = omega arith in
    subst (λ b. Member (0 + n) (cond b (n ∷ true_from (n + 1) claim rest) (true_from (n + 1) claim rest))) (sym here) (inl first)
one-is-named claim n (p ∷ rest) (suc i) o stands so =
    let further : Member (suc i + n) (true_from (n + 1) claim rest) =
    subst (λ k. Member k (true_from (n + 1) claim rest)) (omega arith) (one-is-named claim (n + 1) rest i o stands so) in
    by (truth_in claim p) further
  where
    by : (b : Bool)
        → Member (suc i + n) (true_from (n + 1) claim rest)
        → Member (suc i + n) (cond b (n ∷ true_from (n + 1) claim rest) (true_from (n + 1) claim rest))
    by true m = inr m
    by false m = m

-- ---- of what was printed

pub true-names : TruthIsShown → TrueNamesTrueStates
true-names shown t search out condition test is said =
    let claim = condition.claim in
    let names = names_shown search.show t in
    let same : (o : Outcome) (registers : List (List ℕ)) (memory : List ℕ) → values_at names registers memory ≡ shown_values names o
    → truth_of registers memory claim ≡ truth_in claim o =
    λ o registers memory alike. shown search.show t condition (record { registers = registers; memory = memory; choices = [] }) o test is alike in
    record {
      numbers = true_in claim said.outcomes;
      last = subst (EndsInNumbers (true_in claim said.outcomes)) (sym said.printed) (numbers-end t names condition search.depth said.outcomes is);
      states = record {
        named = λ i o registers memory stands alike. (
          (λ has.
              same o registers memory alike
              ∙ (named-is-one claim 1 said.outcomes (i + 1) (to-member (i + 1) (true_in claim said.outcomes) has)).holds i o stands refl),
          (λ so. from-member (i + 1) (true_in claim said.outcomes) (one-is-named claim 1 said.outcomes i o stands (sym (same o registers memory alike) ∙ so))),
        );
        within = λ n has.
            let one = named-is-one claim 1 said.outcomes n (to-member n (true_in claim said.outcomes) has) in
            let low = one.low in
            let high = one.high in
            (omega (arith, low), omega (arith, high));
      };
    }

pub holds-tells : TruthIsShown → HoldsTellsTrueStates
holds-tells shown t search out condition test is said o registers memory has alike =
    ap (λ c. holds_in c o) is
    ∙ ap (λ b. Some b) (sym (shown search.show t condition (record { registers = registers; memory = memory; choices = [] }) o test is alike))
