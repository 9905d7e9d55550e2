-- Every register is hidden at first, and those that aren't shown stay so.
use Rattle.search_report.proofs.Vocabulary.{◌≡◌, ◌≢◌, ◌∙◌, ◌<◌, ◌⊎◌, inl, inr, ℕ, zero, suc, Bool, true, false, List, [], ◌∷◌, length}
use Rattle.search_report.proofs.Vocabulary.{filter, cond, Some, slice_get, slice_set, slice_index_or, arith, ap, sym, subst, refl, Litmus}
use Rattle.search_report.proofs.Vocabulary.{index_of, Reg, Eax, Ebx, Ecx, Edx, Esi, Edi, Core, none_hidden, hidden_of, Named, Register}
use Rattle.search_report.proofs.Vocabulary.{named_register, is_shown, names_shown, Show, IsHidden}
use Rattle.search_report.proofs.Hiding.{row-at}

-- ---- one register more is shown

same-or-not : (n k : ℕ) → (n ≡ k) ⊎ (n ≢ k)
same-or-not n k = grind arith

elsewhere : {X : Type 0} (xs : List X) (k c : ℕ) (x d : X) → k ≢ c → slice_index_or (slice_set xs k x) c d ≡ slice_index_or xs c d
elsewhere [] k c x d differ = refl
elsewhere (y ∷ ys) zero zero x d differ = absurd (differ refl)
elsewhere (y ∷ ys) zero (suc c) x d differ = refl
elsewhere (y ∷ ys) (suc k) zero x d differ = refl
elsewhere (y ∷ ys) (suc k) (suc c) x d differ = elsewhere ys k c x d (λ same. differ (ap suc same))

there : {X : Type 0} (xs : List X) (k : ℕ) (x d : X) → k < length xs → slice_index_or (slice_set xs k x) k d ≡ x
there [] k x d l = absurd (let z : ⊥ = omega (arith, l) in z)
there (y ∷ ys) zero x d l = refl
there (y ∷ ys) (suc k) x d l = there ys k x d (omega (arith, l))

-- the register of a place in a row
abbrev register_at : ℕ → Reg
register_at zero = Eax
register_at (suc zero) = Ebx
register_at (suc (suc zero)) = Ecx
register_at (suc (suc (suc zero))) = Edx
register_at (suc (suc (suc (suc zero)))) = Esi
register_at (suc (suc (suc (suc (suc n))))) = Edi

placed : (reg : Reg) → register_at (index_of reg) ≡ reg
placed Eax = refl
placed Ebx = refl
placed Ecx = refl
placed Edx = refl
placed Esi = refl
placed Edi = refl

one-register : (core other : Core) (reg r : Reg) → other.0 ≡ core.0 → index_of r ≡ index_of reg → Register other r ≡ Register core reg
one-register core other reg r cores places =
    let registers : r ≡ reg = sym (placed r) ∙ ap register_at places ∙ placed reg in
    λ i. Register (record { 0 = cores i }) (registers i)

pub stays : (old : List (List Bool)) (at place : ℕ) (d : List Bool) (other core : Core) (r reg : Reg) → at ≡ other.0 → place ≡ index_of r → other.0 < length old
    → (Register other r ≡ Register core reg → ⊥)
    → IsHidden old core.0 reg
    → IsHidden (slice_set old at (slice_set (slice_index_or old at d) place false)) core.0 reg
stays old at place d other core r reg cores places l differ hidden = by_core (same-or-not at core.0)
  where
    by_place : at ≡ core.0
        → (place ≡ index_of reg) ⊎ (place ≢ index_of reg)
        → IsHidden (slice_set old at (slice_set (slice_index_or old at d) place false)) core.0 reg
    by_place same (inl is) = absurd (differ (one-register core other reg r (sym cores ∙ same) (sym places ∙ is)))
    by_place same (inr isnt) =
        let new = slice_set (slice_index_or old at d) place false in
        let here : hidden_of (slice_set old at new) at ≡ new = there old at new none_hidden (omega (arith, l, cores)) in
        let old_row : slice_index_or old at d ≡ hidden_of old at = row-at old at d (omega (arith, l, cores)) in
        ap (λ c. slice_index_or (hidden_of (slice_set old at new) c) (index_of reg) false) (sym same)
        ∙ ap (λ ds. slice_index_or ds (index_of reg) false) here
        ∙ elsewhere (slice_index_or old at d) place (index_of reg) false false isnt
        ∙ ap (λ ds. slice_index_or ds (index_of reg) false) old_row
        ∙ ap (λ c. slice_index_or (hidden_of old c) (index_of reg) false) same ∙ hidden

    by_core : (at ≡ core.0) ⊎ (at ≢ core.0) → IsHidden (slice_set old at (slice_set (slice_index_or old at d) place false)) core.0 reg
    by_core (inl same) = by_place same (same-or-not place (index_of reg))
    by_core (inr apart) =
        ap (λ ds. slice_index_or ds (index_of reg) false) (elsewhere old at core.0 (slice_set (slice_index_or old at d) place false) none_hidden apart) ∙ hidden

-- ---- at first

-- all six registers of a core
abbrev pub all_six : List Bool
all_six = true ∷ true ∷ true ∷ true ∷ true ∷ true ∷ []

pub six-hidden : (reg : Reg) → slice_index_or all_six (index_of reg) false ≡ true
six-hidden Eax = refl
six-hidden Ebx = refl
six-hidden Ecx = refl
six-hidden Edx = refl
six-hidden Esi = refl
six-hidden Edi = refl

-- ---- what isn't shown isn't named

pub got : {X : Type 0} (xs : List X) (i : ℕ) (d : X) → i < length xs → slice_get xs i ≡ Some (slice_index_or xs i d)
got [] i d l = absurd (let z : ⊥ = omega (arith, l) in z)
got (x ∷ xs) zero d l = refl
got (x ∷ xs) (suc i) d l = got xs i d (omega (arith, l))

passes : {X : Type 0} (p : X → Bool) (xs : List X) (i : ℕ) (x : X) → slice_get (filter p xs) i ≡ Some x → p x ≡ true
passes p [] i x at = absurd (let z : ⊥ = cc in z)
passes {X} p (y ∷ ys) i x at = by (p y) refl i at (λ j. passes p ys j x)
  where
    by : (b : Bool) → p y ≡ b → (i : ℕ) → slice_get (cond b (y ∷ filter p ys) (filter p ys)) i ≡ Some x
        → ((j : ℕ) → slice_get (filter p ys) j ≡ Some x → p x ≡ true) → p x ≡ true
    by true is zero at further = let same : y ≡ x = cc in ap p (sym same) ∙ is
    by true is (suc i) at further = further i at
    by false isnt i at further = further i at

pub unnamed : (show : Show) (t : Litmus) (names : List Named) (core : ℕ) (reg : Reg)
    → names ≡ names_shown show t
    → is_shown show t (named_register core reg) ≡ false
    → (j : ℕ) (n : Named) → slice_get names j ≡ Some n → n ≡ named_register core reg → ⊥
unnamed show t names core reg list not_shown j n at is =
    let shown : is_shown show t n ≡ true = passes (is_shown show t) _ j n (subst (λ z. slice_get z j ≡ Some n) list at) in
    let same : is_shown show t (named_register core reg) ≡ true = ap (λ z. is_shown show t z) (sym is) ∙ shown in
    let z : ⊥ = cc in z
