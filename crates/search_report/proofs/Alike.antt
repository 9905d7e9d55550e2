-- Of the same final states the same is printed, but for the choices.
use Rattle.search_report.proofs.Vocabulary.{◌≡◌, ◌∙◌, ◌+◌, ℕ, Bool, false, not, cond, if◌then◌else◌, List, [], ◌∷◌, map, drop, length}
use Rattle.search_report.proofs.Vocabulary.{slice_index_or, Contains, Option, Some, None, refl, sym, ap, subst, count_by}
use Rattle.search_report.proofs.Vocabulary.{recursion_from_All, sum_by-cons, slice_get_within, get_or_from_slice_get, Litmus, IsTest, Claim}
use Rattle.search_report.proofs.Vocabulary.{Condition, truth_of, Named, names_shown, values_at, Show, Have, FinalState, Outcome, outcome_of}
use Rattle.search_report.proofs.Vocabulary.{shown_values, ArePrinted, true_from, holds_in, AreNotShown, OutcomesAreAlike}
use Rattle.search_report.proofs.Vocabulary.{OutcomesOfTheSameValuesAreAlike, OutcomesAreOneButForChoices}
use Rattle.search_report.proofs.Members.{Member, to-member, member-place, member-map, member-each, same-lists}
use Rattle.search_report.proofs.Showing.{truth-shown}

-- ---- the same values

printed-there : (names : List Named) (hidden : List (List Bool)) (others : List FinalState) (again : List Outcome)
    (registers : List (List ℕ)) (memory : List ℕ)
    → AreNotShown names hidden
    → ArePrinted names others again → Have hidden others registers memory → Member (values_at names registers memory) (map (shown_values names) again)
printed-there names hidden others again registers memory unseen printed h =
    let g = h.final in
    let lt = slice_get_within others h.at g h.stands in
    let found : Contains (map (shown_values names) again) (shown_values names (outcome_of g)) =
    subst (λ f. Contains (map (shown_values names) again) (shown_values names (outcome_of f)))
    (get_or_from_slice_get others h.at g g h.stands) (printed.complete h.at g lt) in
    subst (λ v. Member v (map (shown_values names) again))
    (unseen g.registers.items registers g.memory.items h.registers_are
    ∙ ap (λ m. values_at names registers m) h.memory_is)
    (to-member (shown_values names (outcome_of g)) (map (shown_values names) again) found)

among : (names : List Named) (hidden : List (List Bool)) (finals others : List FinalState) (outcomes again : List Outcome) → AreNotShown names hidden
    → ((registers : List (List ℕ)) (memory : List ℕ) → Have hidden finals registers memory → Have hidden others registers memory)
    → ArePrinted names finals outcomes
    → ArePrinted names others again
    → (v : List ℕ) → Member v (map (shown_values names) outcomes)
    → Member v (map (shown_values names) again)
among names hidden finals others outcomes again unseen have printed more v m =
    let one = member-map (shown_values names) v outcomes m in
    let found : Contains (map outcome_of finals) one.0 =
    member-each (Contains (map outcome_of finals)) one.0 outcomes (recursion_from_All (Contains (map outcome_of finals)) outcomes printed.found) one.1 in
    let final = member-map outcome_of one.0 finals (to-member one.0 (map outcome_of finals) found) in
    let f = final.0 in
    let place = member-place f finals final.1 in
    let there : Have hidden finals f.registers.items f.memory.items = record {
      at = place.0;
      final = f;
      stands = place.1;
      registers_are = refl;
      memory_is = refl;
    } in
    subst (λ w. Member w (map (shown_values names) again)) (sym (one.2 ∙ ap (shown_values names) final.2))
    (printed-there names hidden others again f.registers.items f.memory.items unseen more (have f.registers.items f.memory.items there))

-- ---- the same counts

same-count : {X : Type 0} (shown : X → List ℕ) (p : X → Bool) (xs ys : List X) → ((x y : X) → shown x ≡ shown y → p x ≡ p y) → map shown xs ≡ map shown ys
    → count_by p xs ≡ count_by p ys
same-count shown p [] [] same are = refl
same-count shown p [] (y ∷ ys) same are = absurd (let long : 0 ≡ length (map shown (y ∷ ys)) = ap length are in let none : ⊥ = cc in none)
same-count shown p (x ∷ xs) [] same are = absurd (let long : length (map shown (x ∷ xs)) ≡ 0 = ap length are in let none : ⊥ = cc in none)
same-count shown p (x ∷ xs) (y ∷ ys) same are =
    let heads : p x ≡ p y = same x y (ap (λ values. slice_index_or values 0 []) are) in
    let rest : count_by p xs ≡ count_by p ys = same-count shown p xs ys same (ap (λ values. drop 1 values) are) in
    sum_by-cons (λ z. cond (p z) 1 0) x xs ∙ (ap (λ b. cond b 1 0 + count_by p xs) heads
    ∙ (ap (λ n. cond (p y) 1 0 + n) rest ∙ sym (sum_by-cons (λ z. cond (p z) 1 0) y ys)))

-- ---- the same truths

same-map : {X Y : Type 0} (shown : X → List ℕ) (f : X → Y) (xs ys : List X)
    → ((x y : X) → shown x ≡ shown y → f x ≡ f y)
    → map shown xs ≡ map shown ys
    → map f xs ≡ map f ys
same-map shown f [] [] same are = refl
same-map shown f [] (y ∷ ys) same are = absurd (let long : 0 ≡ length (map shown (y ∷ ys)) = ap length are in let none : ⊥ = cc in none)
same-map shown f (x ∷ xs) [] same are = absurd (let long : length (map shown (x ∷ xs)) ≡ 0 = ap length are in let none : ⊥ = cc in none)
same-map shown f (x ∷ xs) (y ∷ ys) same are =
    ap (λ z. z ∷ map f xs) (same x y (ap (λ values. slice_index_or values 0 []) are))
    ∙ ap (λ zs. f y ∷ zs) (same-map shown f xs ys same (ap (λ values. drop 1 values) are))

same-numbers : (n : ℕ) (claim : Claim) (outcomes again : List Outcome)
    → map (λ (o : Outcome). truth_of o.registers o.memory claim) outcomes ≡ map (λ (o : Outcome). truth_of o.registers o.memory claim) again
    → true_from n claim outcomes ≡ true_from n claim again
same-numbers n claim [] [] are = refl
same-numbers n claim [] (p ∷ again) are = absurd (let long = ap length are in let none : ⊥ = cc in none)
same-numbers n claim (o ∷ outcomes) [] are = absurd (let long = ap length are in let none : ⊥ = cc in none)
same-numbers n claim (o ∷ outcomes) (p ∷ again) are =
    let rest = same-numbers (n + 1) claim outcomes again (ap (λ truths. drop 1 truths) are) in
    ap (λ b. if b then n ∷ true_from (n + 1) claim outcomes else true_from (n + 1) claim outcomes) (ap (λ truths. slice_index_or truths 0 false) are)
    ∙ ap (λ numbers. if truth_of p.registers p.memory claim then n ∷ numbers else numbers) rest

holds-shown : (show : Show) (t : Litmus) (condition : Option Condition) (o p : Outcome) → IsTest t → t.condition ≡ condition
    → shown_values (names_shown show t) o ≡ shown_values (names_shown show t) p → holds_in condition o ≡ holds_in condition p
holds-shown show t None o p test is values = refl
holds-shown show t (Some c) o p test is values = ap Some (truth-shown show t c o p test is values)

pub alike : (show : Show) (t : Litmus) (outcomes again : List Outcome)
    → IsTest t
    → map (shown_values (names_shown show t)) outcomes ≡ map (shown_values (names_shown show t)) again
    → OutcomesAreAlike t (names_shown show t) outcomes again
alike show t outcomes again test values =
    let shown = shown_values (names_shown show t) in
    record {
      values = values;
      holds = same-map shown (holds_in t.condition) outcomes again (λ o p alike. holds-shown show t t.condition o p test refl alike) values;
      held = λ c is. same-count shown (λ o. truth_of o.registers o.memory c.claim) outcomes again (λ o p alike. truth-shown show t c o p test is alike) values;
      failed = λ c is. same-count shown (λ o. not (truth_of o.registers o.memory c.claim)) outcomes again
          (λ o p alike. ap not (truth-shown show t c o p test is alike)) values;
      numbers = λ c is. same-numbers 1 c.claim outcomes again
          (same-map shown (λ o. truth_of o.registers o.memory c.claim) outcomes again (λ o p alike. truth-shown show t c o p test is alike) values);
    }

-- what has an element at a place contains it
from-member : {X : Type 0} (x : X) (xs : List X) → Member x xs → Contains xs x
from-member x xs m =
    let place = member-place x xs m in
    (place.0, slice_get_within xs place.0 x place.1, get_or_from_slice_get xs place.0 x x place.1)

pub same-values-alike : OutcomesOfTheSameValuesAreAlike
same-values-alike show t outcomes again test ascending more same =
    let a = map (shown_values (names_shown show t)) outcomes in
    let b = map (shown_values (names_shown show t)) again in
    alike show t outcomes again test
    (same-lists a b ascending more
    (λ v m. to-member v b ((same v).0 (from-member v a m)))
    (λ v m. to-member v a ((same v).1 (from-member v b m))))

pub one-but-for-choices : OutcomesAreOneButForChoices
one-but-for-choices show t hidden finals others outcomes again test unseen same printed more =
    let names = names_shown show t in
    let values : map (shown_values names) outcomes ≡ map (shown_values names) again =
    same-lists (map (shown_values names) outcomes) (map (shown_values names) again) printed.ascending more.ascending
    (among names hidden finals others outcomes again unseen (λ registers memory. (same registers memory).0) printed more)
    (among names hidden others finals again outcomes unseen (λ registers memory. (same registers memory).1) more printed) in
    alike show t outcomes again test values
