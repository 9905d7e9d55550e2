-- What exchanges make of the states in which the test has ended, and that what was exchanged on the way is found among them.
use Rattle.explorer.proofs.Vocabulary.{◌≡◌, ◌<◌, ◌≤◌, ℕ, ◌+◌, zero, suc, Bool, true, List, [], ◌∷◌, length, map, Some, slice_get, inl, inr}
use Rattle.explorer.proofs.Vocabulary.{arith, ap, sym, ◌∙◌, subst, refl, length-set, lt-or, Litmus, State, start, effect_of, after_choice}
use Rattle.explorer.proofs.Vocabulary.{chosen, run, has_ended, Choice, state_after, RunsStopWhereTheyEnd, IsAmongStates, forgotten}
use Rattle.explorer.proofs.Vocabulary.{AreAlike, DeadRegistersChangeNothing, exchanged, exchanged_by, IsOneOf, AreOf, AreAllAlike}
use Rattle.explorer.proofs.Vocabulary.{AlikeCoresAreExchangeable, state_of_packed, HasExchanged, AreExchanged, Grows, HaveCores}
use Rattle.explorer.proofs.Vocabulary.{LeadToExchanged, Packed}
use Rattle.explorer.proofs.Exchanging.{start-cores, length-exchanged}
use Rattle.explorer.proofs.Linking.{get-back, kept-at}
use Rattle.explorer.proofs.Searching.{from-list, in-grown}

-- ---- how many cores there are

length-after : (d : ℕ) (t : Litmus) (s : State) (cs : List Choice) → length (state_after t d s cs).cores ≡ length s.cores
length-after d t s [] = refl
length-after d t s (c ∷ cs) = length-after d t (after_choice t d s c) cs ∙ length-set s.cores (chosen c) (effect_of t d s c).after

pub end-cores : RunsStopWhereTheyEnd → (d : ℕ) (t : Litmus) (cs : List Choice) → length (run t d cs).state.cores ≡ length t.programs
end-cores stop d t cs = ap (λ z. length z.cores) (stop.stops t d cs).all_state ∙ length-after d t (start t) cs ∙ start-cores t

-- ---- one pair more

pub exchanged-none : (pairs : List (ℕ × ℕ)) (xs : List Packed) (s : State) (i : ℕ) (pair : ℕ × ℕ)
    → i < 0
    → slice_get pairs i ≡ Some pair
    → IsAmongStates (map state_of_packed xs) (exchanged pair s)
exchanged-none pairs xs s i pair l = absurd (let z : ⊥ = omega (arith, l) in z)

pub exchanged-more : (pairs : List (ℕ × ℕ)) (xs ys : List Packed) (s : State) (n : ℕ) (p : ℕ × ℕ) → Grows xs ys → slice_get pairs n ≡ Some p
    → ((i : ℕ) (pair : ℕ × ℕ)
    → i < n
    → slice_get pairs i ≡ Some pair
    → IsAmongStates (map state_of_packed xs) (exchanged pair s))
    → IsAmongStates (map state_of_packed ys) (exchanged p s)
    → (i : ℕ) (pair : ℕ × ℕ) → i < n + 1 → slice_get pairs i ≡ Some pair → IsAmongStates (map state_of_packed ys) (exchanged pair s)
exchanged-more pairs xs ys s n p g at before now i pair l q = elim (lt-or n i) [
  | inl m ↦ in-grown xs ys (exchanged pair s) g (before i pair m q)
  | inr m ↦
      let e : i ≡ n = omega (arith, l, m) in
      let r : slice_get pairs n ≡ Some pair = subst (λ z. slice_get pairs z ≡ Some pair) e q in
      let same : p ≡ pair = cc in
      subst (λ z. IsAmongStates (map state_of_packed ys) (exchanged z s)) same now
]

-- ---- one state more

pub has-exchanged-grown : (pairs : List (ℕ × ℕ)) (xs ys : List Packed) (s : State) → Grows xs ys → HasExchanged pairs xs s → HasExchanged pairs ys s
has-exchanged-grown pairs xs ys s g h pair m = in-grown xs ys (exchanged pair s) g (h pair m)

pub all-exchanged-none : (t : Litmus) (pairs : List (ℕ × ℕ)) (xs : List Packed) → AreExchanged t pairs xs 0
all-exchanged-none t pairs xs i s l = absurd (let z : ⊥ = omega (arith, l) in z)

pub no-pairs : (t : Litmus) (pairs : List (ℕ × ℕ)) (xs : List Packed) (n : ℕ) → pairs ≡ [] → AreExchanged t pairs xs n
no-pairs t pairs xs n q i s l at e pair m = absurd (none m.0 pair (subst (λ z. slice_get z m.0 ≡ Some pair) q m.1))
  where
    none : (i : ℕ) (pair : ℕ × ℕ) → slice_get [] i ≡ Some pair → ⊥
    none i pair p = let z : ⊥ = cc in z

pub all-exchanged-more : (t : Litmus) (pairs : List (ℕ × ℕ)) (xs ys : List Packed) (n : ℕ) → n < length xs → Grows xs ys → AreExchanged t pairs xs n
    → ((s : Packed)
    → slice_get xs n ≡ Some s
    → has_ended t (state_of_packed s) ≡ true
    → HasExchanged pairs ys (state_of_packed s))
    → AreExchanged t pairs ys (n + 1)
all-exchanged-more t pairs xs ys n within g before now i s l q e =
    let m : i < length xs = omega (arith, l, within) in
    let old : slice_get xs i ≡ Some s = get-back xs g.0 i s m (subst (λ z. slice_get z i ≡ Some s) g.1 q) in
    elim (lt-or n i) [
      | inl k ↦ has-exchanged-grown pairs xs ys (state_of_packed s) g (before i s k old e)
      | inr k ↦ let w : i ≡ n = omega (arith, l, k) in now s (subst (λ z. slice_get xs z ≡ Some s) w old) e
    ]

pub all-exchanged : (t : Litmus) (pairs : List (ℕ × ℕ)) (xs : List Packed) (n : ℕ)
    → length xs ≤ n
    → AreExchanged t pairs xs n
    → AreExchanged t pairs xs (length xs)
all-exchanged t pairs xs n l h i s m = h i s (omega (arith, l, m))

-- ---- what an exchange makes of a state is linked to it

pub one-exchange : (d : ℕ) (t : Litmus) (hidden : List (List Bool)) (pairs es : List (ℕ × ℕ)) (pair : ℕ × ℕ)
    (cs : List Choice) (s new : State)
    → AreAllAlike t hidden pairs
    → IsOneOf pairs pair
    → forgotten t hidden s ≡ s → cs ≡ [] → es ≡ pair ∷ [] → new ≡ exchanged pair s → LeadToExchanged d t hidden s cs es new
one-exchange d t hidden pairs es pair cs s new all m f c e n =
    subst (λ z. LeadToExchanged d t hidden s z es new) (sym c) (subst (λ z. LeadToExchanged d t hidden s [] z new) (sym e) (record {
      last = s;
      leads = refl;
      alike = only;
      kept_is = ap (exchanged pair) f ∙ sym n;
    }))
  where
    only : AreAllAlike t hidden (pair ∷ [])
    only p (zero, q) = let z : pair ≡ p = cc in all p (subst (IsOneOf pairs) z m)
    only p (suc i, q) = absurd (let z : ⊥ = cc in z)

-- ---- back to what was exchanged

pub record IsBack (t : Litmus) (hidden : List (List Bool)) (xs : List Packed) (last : State) : Type 0 where
  pub state : State
  pub among : IsAmongStates (map state_of_packed xs) state
  pub alike : AreAlike t hidden state last

module _ (law : DeadRegistersChangeNothing) (all : AlikeCoresAreExchangeable) (t : Litmus) (hidden : List (List Bool)) (pairs : List (ℕ × ℕ)) (xs : List Packed)
    (alike : AreAllAlike t hidden pairs) (cores : HaveCores t xs) (done : AreExchanged t pairs xs (length xs)) where
  its-cores : (s : State) → (m : IsAmongStates (map state_of_packed xs) s) → length s.cores ≡ length t.programs
  its-cores s m =
      let r = from-list xs m.0 s m.1 in
      subst (λ z. length z.cores ≡ length t.programs) r.2 (kept-at t xs m.0 r.0 cores r.1).cores

  -- where exchanges of a state that has ended are alike one of the kept ones, so is the state
  pub found-back : (es : List (ℕ × ℕ))
      → AreOf pairs es
      → (last : State) → length last.cores ≡ length t.programs
      → has_ended t last ≡ true
      → (k : State) → IsAmongStates (map state_of_packed xs) k
      → AreAlike t hidden k (exchanged_by es last) → IsBack t hidden xs last
  found-back [] h last n e k m a = record { state = k; among = m; alike = a }
  found-back (p ∷ es) h last n e k m a =
      let w = all t hidden p (alike p h.0) in
      let r = found-back es h.1 (exchanged p last) (length-exchanged p last ∙ n) (w.ended last n ∙ e) k m a in
      let f = from-list xs r.among.0 r.state r.among.1 in
      let ended : has_ended t r.state ≡ true = law.ended t hidden r.state (exchanged p last) r.alike ∙ w.ended last n ∙ e in
      record {
        state = exchanged p r.state;
        among =
            subst (λ z. IsAmongStates (map state_of_packed xs) (exchanged p z)) f.2
            (done r.among.0 f.0 f.3 f.1 (subst (λ z. has_ended t z ≡ true) (sym f.2) ended) p h.0);
        alike =
            w.dead r.state (its-cores r.state r.among)
            ∙ ap (exchanged p) r.alike
            ∙ sym (w.dead (exchanged p last) (length-exchanged p last ∙ n))
            ∙ ap (forgotten t hidden) (w.twice last n);
      }
