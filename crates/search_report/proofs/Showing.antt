-- What the condition says of a state shows in the values that are looked at.
use Rattle.search_report.proofs.Vocabulary.{◌≡◌, ◌∙◌, ◌⊎◌, inl, inr, ⊎_elim, ◌<◌, ◌≤◌, ◌+◌, ◌==◌, ◌&&◌, ◌||◌, ℕ, zero, suc, Bool, true}
use Rattle.search_report.proofs.Vocabulary.{false, not, List, [], ◌∷◌, ◌++◌, map, drop, length, slice_index, slice_index_or, Some, refl}
use Rattle.search_report.proofs.Vocabulary.{sym, ap, subst, arith, Litmus, Claim, TruthClaim, RegClaim, LocClaim, NotClaim, AndClaim}
use Rattle.search_report.proofs.Vocabulary.{OrClaim, Condition, truth_of, NamesExist, index_of, Reg, Eax, Ebx, Ecx, Edx, Esi, Edi}
use Rattle.search_report.proofs.Vocabulary.{claim_names_register, claim_names_location, is_looked_at, named_register, named_location}
use Rattle.search_report.proofs.Vocabulary.{named_registers, named_locations, shown_value, is_added, is_shown, names_shown, Show, Named}
use Rattle.search_report.proofs.Vocabulary.{Outcome, shown_values, TruthIsShown}
use Rattle.std.proofs.lemmas.Bool.Decides.{leb_tells, eqb_tells}
use Rattle.tso_terms.specs.Thread.{value_in}
use Rattle.tso_report.specs.Report.{all_registers}
use Rattle.search_report.proofs.Members.{Member, member-left, member-right, member-filter}

-- ---- what the condition names is looked at

core-there : (core : ℕ) (reg : Reg) → Member (named_register core reg) (map (named_register core) all_registers)
unfolding all_registers
core-there core Eax = inl refl
core-there core Ebx = inr (inl refl)
core-there core Ecx = inr (inr (inl refl))
core-there core Edx = inr (inr (inr (inl refl)))
core-there core Esi = inr (inr (inr (inr (inl refl))))
core-there core Edi = inr (inr (inr (inr (inr (inl refl)))))

at-or-after : (m n : ℕ) → (n ≤ m) ⊎ (m < n)
at-or-after m n = ⊎_elim (λ is. inl is.1) (λ is. inr is.1) (leb_tells n m)

pub register-there : (core count c : ℕ) (reg : Reg) → core ≤ c → c < core + count → Member (named_register c reg) (named_registers core count)
register-there core zero c reg low high = absurd (omega (arith, low, high))
register-there core (suc count) c reg low high = by_place (at-or-after core c) (register-there (core + 1) count c reg)
  where
    by_place : (c ≤ core) ⊎ (core < c)
        → (core + 1 ≤ c → c < core + 1 + count → Member (named_register c reg) (named_registers (core + 1) count))
        → Member (named_register c reg) (named_registers core (suc count))
    by_place (inl here) further =
        let same : core ≡ c = omega (arith, low, here) in
        member-left (named_register c reg) (map (named_register core) all_registers) (named_registers (core + 1) count)
        (subst (λ k. Member (named_register c reg) (map (named_register k) all_registers)) (sym same) (core-there c reg))
    by_place (inr later) further =
        member-right (named_register c reg) (map (named_register core) all_registers) (named_registers (core + 1) count)
        (further (omega (arith, later)) (omega (arith, high)))

pub location-there : (loc count l : ℕ) → loc ≤ l → l < loc + count → Member (named_location l) (named_locations loc count)
location-there loc zero l low high = absurd (omega (arith, low, high))
location-there loc (suc count) l low high = by_place (at-or-after loc l) (location-there (loc + 1) count l)
  where
    by_place : (l ≤ loc) ⊎ (loc < l)
        → (loc + 1 ≤ l → l < loc + 1 + count → Member (named_location l) (named_locations (loc + 1) count))
        → Member (named_location l) (named_locations loc (suc count))
    by_place (inl here) further = let same : l ≡ loc = omega (arith, low, here) in inl (ap named_location same)
    by_place (inr later) further = inr (further (omega (arith, later)) (omega (arith, high)))

-- two functions with the same values along a list have the same at each member
same-at : (f g : Named → ℕ) (names : List Named) (n : Named) → map f names ≡ map g names → Member n names → f n ≡ g n
same-at f g [] n are m = absurd m
same-at f g (x ∷ xs) n are (inl is) = ap f is ∙ (ap (λ values. slice_index values 0) are ∙ ap g (sym is))
same-at f g (x ∷ xs) n are (inr m) = same-at f g xs n (ap (λ values. drop 1 values) are) m

-- ---- the truth follows from what is named

pub eq-self : (n : ℕ) → (n == n) ≡ true
eq-self n = ⊎_elim (λ is. is.0) (λ differs. absurd (differs.1 refl)) (eqb_tells n n)

or-left : (a b : Bool) → a ≡ true → a || b ≡ true
or-left a b h = ap (λ x. x || b) h

or-right : (a b : Bool) → b ≡ true → a || b ≡ true
or-right true b h = refl
or-right false b h = h

abbrev SameRegisters : Outcome → Outcome → ℕ → Claim → Type 0
SameRegisters o p cores claim =
    (core : ℕ) (reg : Reg) → core < cores → claim_names_register claim core reg ≡ true
    → value_in (slice_index_or o.registers core []) reg ≡ value_in (slice_index_or p.registers core []) reg

abbrev SameWords : Outcome → Outcome → ℕ → Claim → Type 0
SameWords o p locations claim = (loc : ℕ) → loc < locations → claim_names_location claim loc ≡ true → slice_index o.memory loc ≡ slice_index p.memory loc

same-truth : (o p : Outcome) (cores locations : ℕ) (claim : Claim)
    → NamesExist cores locations claim
    → SameRegisters o p cores claim
    → SameWords o p locations claim
    → truth_of o.registers o.memory claim ≡ truth_of p.registers p.memory claim
same-truth o p cores locations (TruthClaim truth) exist registers words = refl
same-truth o p cores locations (RegClaim core reg value) exist registers words =
    ap (λ v. v == value) (registers core reg exist (ap (λ b. b && (index_of reg == index_of reg)) (eq-self core) ∙ eq-self (index_of reg)))
same-truth o p cores locations (LocClaim loc value) exist registers words = ap (λ v. v == value) (words loc exist (eq-self loc))
same-truth o p cores locations (NotClaim inner) exist registers words = ap not (same-truth o p cores locations inner exist registers words)
same-truth o p cores locations (AndClaim left right) exist registers words =
    ap (λ b. b && truth_of o.registers o.memory right)
    (same-truth o p cores locations left exist.0
    (λ core reg lt named.
    registers core reg lt (or-left (claim_names_register left core reg) (claim_names_register right core reg) named))
    (λ loc lt named. words loc lt (or-left (claim_names_location left loc) (claim_names_location right loc) named)))
    ∙ ap (λ b. truth_of p.registers p.memory left && b)
    (same-truth o p cores locations right exist.1
    (λ core reg lt named.
    registers core reg lt (or-right (claim_names_register left core reg) (claim_names_register right core reg) named))
    (λ loc lt named. words loc lt (or-right (claim_names_location left loc) (claim_names_location right loc) named)))
same-truth o p cores locations (OrClaim left right) exist registers words =
    ap (λ b. b || truth_of o.registers o.memory right)
    (same-truth o p cores locations left exist.0
    (λ core reg lt named.
    registers core reg lt (or-left (claim_names_register left core reg) (claim_names_register right core reg) named))
    (λ loc lt named. words loc lt (or-left (claim_names_location left loc) (claim_names_location right loc) named)))
    ∙ ap (λ b. truth_of p.registers p.memory left || b)
    (same-truth o p cores locations right exist.1
    (λ core reg lt named.
    registers core reg lt (or-right (claim_names_register left core reg) (claim_names_register right core reg) named))
    (λ loc lt named. words loc lt (or-right (claim_names_location left loc) (claim_names_location right loc) named)))

looked-same : (show : Show) (t : Litmus) (condition : Condition) (o p : Outcome) (n : Named)
    → t.condition ≡ Some condition
    → shown_values (names_shown show t) o ≡ shown_values (names_shown show t) p
    → is_looked_at (Some condition) n ≡ true → Member n (named_registers 0 (length t.programs) ++ named_locations 0 (length t.locations))
    → shown_value o.registers o.memory n ≡ shown_value p.registers p.memory n
looked-same show t condition o p n is alike looked there =
    same-at (shown_value o.registers o.memory) (shown_value p.registers p.memory) (names_shown show t) n alike
    (member-filter (is_shown show t) n (named_registers 0 (length t.programs) ++ named_locations 0 (length t.locations))
    (or-left (is_looked_at t.condition n) (is_added show t n) (ap (λ c. is_looked_at c n) is ∙ looked)) there)

pub truth-shown : TruthIsShown
truth-shown show t condition o p test is alike =
    let cores = length t.programs in
    let locations = length t.locations in
    same-truth o p cores locations condition.claim (test.condition_fits condition is).names_known
    (λ core reg lt named. looked-same show t condition o p (named_register core reg) is alike named
    (member-left (named_register core reg) (named_registers 0 cores) (named_locations 0 locations)
    (register-there 0 cores core reg (omega arith) (omega (arith, lt)))))
    (λ loc lt named. looked-same show t condition o p (named_location loc) is alike named
    (member-right (named_location loc) (named_registers 0 cores) (named_locations 0 locations)
    (location-there 0 locations loc (omega arith) (omega (arith, lt)))))
