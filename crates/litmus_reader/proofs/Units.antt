-- Units by what begins them, and by how many negations and brackets may be open in them.
use Rattle.litmus_reader.proofs.Vocabulary.{◌≡◌, ℕ, zero, suc, ◌-◌, ◌<◌, Bool, true, false, ◌||◌, List, cond, Option, Some, None, Result}
use Rattle.litmus_reader.proofs.Vocabulary.{Ok, Err, refl, sym, ap, arith, Stop, Piece, TooLarge, Fault, ReadError, Fails, ◌>>=◌}
use Rattle.litmus_reader.proofs.Vocabulary.{opens_unit, atom_at, unit_by, unit_at, proposition_at, negation_at, fault, remaining_of, there}
use Rattle.litmus_reader.proofs.Vocabulary.{symbol_at, OpenRound, bracketed, Claimed, length, Bor, Token}
use Rattle.std.specs.Prelude.{is_some, IfOk}
use Rattle.litmus_reader.specs.inner.Propositions.{opening_at, as_negation, closed, opened_at}
use Rattle.litmus_reader.specs.declared.condition.Opening.{Opening}
use Rattle.litmus_reader.specs.declared.condition.Opening.TheVariants as openings
use Rattle.litmus_tokens.specs.declared.fault.ReadError.TheVariants as errors

-- ---- what begins a unit, by what comes after a negation and after a bracket

abbrev Begun : Type 0
Begun = Option (Opening × List Piece)

abbrev opening_of : Option (List Piece) → Option (List Piece) → Begun
opening_of n o = there n (λ rest. Some (openings.Negation, rest)) (there o (λ rest. Some (openings.Bracket, rest)) None)

some_is : (x y : Opening × List Piece) → (let a : Begun = Some x in a) ≡ Some y → x ≡ y
some_is x y e = cc

rest_is : (s : Opening) (x y : List Piece) → (let a : Begun = Some (s, x) in a) ≡ Some (s, y) → x ≡ y
rest_is s x y e = ap (λ (q : Opening × List Piece). q.1) (some_is (s, x) (s, y) e)

differ : (x y : List Piece) → (let a : Begun = Some (openings.Negation, x) in a) ≡ Some (openings.Bracket, y) → ⊥
differ x y e =
    let signs : openings.Negation ≡ openings.Bracket =
    ap (λ (q : Opening × List Piece). q.0) (some_is (openings.Negation, x) (openings.Bracket, y) e) in
    cc

by_negation : {X : Type 0} (n o : Option (List Piece)) (f g : List Piece → X) (atom : X) (rest : List Piece)
    → (let a : Begun = Some (openings.Negation, rest) in a) ≡ opening_of n o → there n f (there o g atom) ≡ f rest
by_negation (Some r) o f g atom rest e = ap f (sym (rest_is openings.Negation rest r e))
by_negation None (Some r) f g atom rest e = absurd (differ rest r e)
by_negation None None f g atom rest e = absurd (let z : ⊥ = cc in z)

by_bracket : {X : Type 0} (n o : Option (List Piece)) (f g : List Piece → X) (atom : X) (rest : List Piece)
    → (let a : Begun = Some (openings.Bracket, rest) in a) ≡ opening_of n o → there n f (there o g atom) ≡ g rest
by_bracket (Some r) o f g atom rest e = absurd (differ r rest (sym e))
by_bracket None (Some r) f g atom rest e = ap g (sym (rest_is openings.Bracket rest r e))
by_bracket None None f g atom rest e = absurd (let z : ⊥ = cc in z)

by_none : {X : Type 0} (n o : Option (List Piece)) (f g : List Piece → X) (atom : X)
    → (let a : Begun = None in a) ≡ opening_of n o
    → there n f (there o g atom) ≡ atom
by_none (Some r) o f g atom e = absurd (let z : ⊥ = cc in z)
by_none None (Some r) f g atom e = absurd (let z : ⊥ = cc in z)
by_none None None f g atom e = refl

opens_some : (n o : Option (List Piece)) (x : Opening × List Piece) → (let a : Begun = Some x in a) ≡ opening_of n o → (is_some n || is_some o) ≡ true
opens_some (Some r) o x e = refl
opens_some None (Some r) x e = refl
opens_some None None x e = absurd (let z : ⊥ = cc in z)

opens_none : (n o : Option (List Piece)) → (let a : Begun = None in a) ≡ opening_of n o → (is_some n || is_some o) ≡ false
opens_none (Some r) o e = absurd (let z : ⊥ = cc in z)
opens_none None (Some r) e = absurd (let z : ⊥ = cc in z)
opens_none None None e = refl

-- ---- which of its forms a unit has

abbrev last : Stop → ℕ → ℕ → List (List ℕ) → List Piece → Bool → Result Claimed Fault
last stop cores atoms names ps b = cond b (Err (fault TooLarge (remaining_of ps))) (atom_at stop cores atoms names ps)

module _ (stop : Stop) (cores : ℕ) where
  pub unit_atom : (opens atoms : ℕ) (names : List (List ℕ)) (ps : List Piece)
      → None ≡ opening_at ps
      → unit_at stop cores opens atoms names ps ≡ atom_at stop cores atoms names ps
  unfolding unit_at unit_by opens_unit
  unit_atom zero atoms names ps none = ap (last stop cores atoms names ps) (opens_none (negation_at ps) (symbol_at OpenRound ps) none)
  unit_atom (suc n) atoms names ps none =
      by_none (negation_at ps) (symbol_at OpenRound ps)
      (λ rest. unit_at stop cores n atoms names rest >>= as_negation)
      (bracketed stop (unit_at stop cores n) atoms names) (atom_at stop cores atoms names ps) none

  pub unit_refused : (opens atoms : ℕ) (names : List (List ℕ)) (ps : List Piece) (x : Opening × List Piece) → opens ≡ 0 → Some x ≡ opening_at ps
      → unit_at stop cores opens atoms names ps ≡ Err (fault TooLarge (remaining_of ps))
  unfolding unit_at opens_unit
  unit_refused zero atoms names ps x none some = ap (last stop cores atoms names ps) (opens_some (negation_at ps) (symbol_at OpenRound ps) x some)
  unit_refused (suc n) atoms names ps x none some = absurd (omega arith)

  unit_negated : (opens atoms : ℕ) (names : List (List ℕ)) (ps inside : List Piece) → 0 < opens → Some (openings.Negation, inside) ≡ opening_at ps
      → unit_at stop cores opens atoms names ps ≡ (unit_at stop cores (opens - 1) atoms names inside >>= as_negation)
  unfolding unit_at unit_by
  unit_negated zero atoms names ps inside some is = absurd (omega arith)
  unit_negated (suc n) atoms names ps inside some is =
      let e : suc n - 1 ≡ n = omega arith in
      rw e (by_negation (negation_at ps) (symbol_at OpenRound ps)
      (λ rest. unit_at stop cores n atoms names rest >>= as_negation)
      (bracketed stop (unit_at stop cores n) atoms names) (atom_at stop cores atoms names ps) inside is)

  unit_bracketed : (opens atoms : ℕ) (names : List (List ℕ)) (ps inside : List Piece) → 0 < opens → Some (openings.Bracket, inside) ≡ opening_at ps
      → unit_at stop cores opens atoms names ps ≡ (proposition_at stop cores (opens - 1) atoms names inside >>= closed stop)
  unfolding unit_at unit_by
  unit_bracketed zero atoms names ps inside some is = absurd (omega arith)
  unit_bracketed (suc n) atoms names ps inside some is =
      let e : suc n - 1 ≡ n = omega arith in
      rw e (by_bracket (negation_at ps) (symbol_at OpenRound ps)
      (λ rest. unit_at stop cores n atoms names rest >>= as_negation)
      (bracketed stop (unit_at stop cores n) atoms names) (atom_at stop cores atoms names ps) inside is)

  pub unit_opened : (opening : Opening) (opens atoms : ℕ) (names : List (List ℕ)) (ps inside : List Piece) → 0 < opens → Some (opening, inside) ≡ opening_at ps
      → unit_at stop cores opens atoms names ps ≡ opened_at opening stop cores (opens - 1) atoms names inside
  unit_opened openings.Negation opens atoms names ps inside some is = unit_negated opens atoms names ps inside some is
  unit_opened openings.Bracket opens atoms names ps inside some is = unit_bracketed opens atoms names ps inside some is

-- ---- what fails first fails in all

pub fails_first : {A B : Type 0} (e : ReadError) (r : Result A Fault) (k : A → Result B Fault) → Fails e r → Fails e (r >>= k)
fails_first errors.NoMemory r k fails = tt
fails_first (errors.Fault f) r k fails = ap (λ z. z >>= k) fails

-- ---- what is shorter than a part is shorter than the whole

pub shorter_still : {X : Type 0} (r : Result (X × Bor (List Token)) ReadError) (part whole : ℕ)
    → part < whole
    → IfOk r (λ x. length x.1.now < part)
    → IfOk r (λ x. length x.1.now < whole)
shorter_still (Ok x) part whole less within = omega (arith, less, within)
shorter_still (Err e) part whole less within = tt
