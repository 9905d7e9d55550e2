-- Of the states that a set keeps no two are the same, and as many can be reached.
use Rattle.explorer.proofs.Vocabulary.{◌≡◌, ◌<◌, ℕ, zero, suc, Bool, false, List, [], ◌∷◌, Some, slice_get, length, arith, ap, sym, ◌∙◌}
use Rattle.explorer.proofs.Vocabulary.{subst, refl, IsDistinct, AllByRecursion, IsDistinct-head, IsDistinct-tail, Litmus, State, forgotten}
use Rattle.explorer.proofs.Vocabulary.{DeadRegistersChangeNothing, AlikeCoresAreExchangeable, state_of_packed, state_bytes, HaveCores}
use Rattle.explorer.proofs.Vocabulary.{AreLinked, IsReachable, HasMoreStates, Packed, Link}
use Rattle.explorer.specs.contracts.packed.PackedPartialEq.TheImpl as packed_eq
use Rattle.explorer.proofs.Same.{packed-equal}
use Rattle.explorer.proofs.Linking.{kept-at, linked-leads, reachable}

differs : (x : Packed) (xs : List Packed) (j : ℕ) (b : Packed)
    → AllByRecursion (λ y. (packed_eq.eq-value).it x y ≡ false) xs
    → slice_get xs j ≡ Some b
    → x.bytes.items ≡ b.bytes.items
    → ⊥
differs x [] j b h p q = let z : ⊥ = cc in z
differs x (y ∷ xs) zero b h p q =
    let e : y ≡ b = cc in
    let r = packed-equal x y (q ∙ ap (λ z. z.bytes.items) (sym e)) in
    let f = h.0 in let z : ⊥ = cc in z
differs x (y ∷ xs) (suc j) b h p q = differs x xs j b h.1 p q

-- the same bytes come once
apart : (xs : List Packed) → IsDistinct (packed_eq.eq-value).it xs → (i j : ℕ) (a b : Packed) → slice_get xs i ≡ Some a → slice_get xs j ≡ Some b
    → a.bytes.items ≡ b.bytes.items → i ≡ j
apart [] d i j a b p q e = absurd (let z : ⊥ = cc in z)
apart (x ∷ xs) d zero zero a b p q e = refl
apart (x ∷ xs) d zero (suc j) a b p q e =
    let f : x ≡ a = cc in absurd (differs x xs j b (IsDistinct-head (packed_eq.eq-value).it x xs d) q (ap (λ z. z.bytes.items) f ∙ e))
apart (x ∷ xs) d (suc i) zero a b p q e =
    let f : x ≡ b = cc in absurd (differs x xs i a (IsDistinct-head (packed_eq.eq-value).it x xs d) p (ap (λ z. z.bytes.items) f ∙ sym e))
apart (x ∷ xs) d (suc i) (suc j) a b p q e = ap suc (apart xs (IsDistinct-tail (packed_eq.eq-value).it x xs d) i j a b p q e)

-- and so does one state
pub states-apart : (t : Litmus) (xs : List Packed)
    → IsDistinct (packed_eq.eq-value).it xs
    → HaveCores t xs
    → (i j : ℕ) (a b : Packed)
    → slice_get xs i ≡ Some a
    → slice_get xs j ≡ Some b
    → state_of_packed a ≡ state_of_packed b → i ≡ j
states-apart t xs d h i j a b p q e = apart xs d i j a b p q ((kept-at t xs i a h p).packed ∙ ap state_bytes e ∙ sym (kept-at t xs j b h q).packed)

-- for each element one that stands for it
record AreFor {A B : Type 0} (R : A → B → Type 0) (xs : List A) (ys : List B) : Type 0 where
  count : length ys ≡ length xs
  each : (i : ℕ) (y : B) → slice_get ys i ≡ Some y → (x : A) × (slice_get xs i ≡ Some x) × R x y

collect : {A B : Type 0} (R : A → B → Type 0) (xs : List A) → ((i : ℕ) (x : A) → slice_get xs i ≡ Some x → (y : B) × R x y) → (ys : List B) × AreFor R xs ys
collect R [] h = ([], record { count = refl; each = λ i y q. absurd (let z : ⊥ = cc in z) })
collect {A} {B} R (x ∷ xs) h =
    let one = h 0 x refl in
    let rest = collect R xs (λ i x q. h (suc i) x q) in
    (one.0 ∷ rest.0, record { count = ap suc rest.1.count; each = each one.0 one.1 rest.0 rest.1 })
  where
    each : (y : B)
        → R x y
        → (ys : List B) → AreFor R xs ys
        → (i : ℕ) (w : B)
        → slice_get (y ∷ ys) i ≡ Some w
        → (v : A) × (slice_get (x ∷ xs) i ≡ Some v) × R v w
    each y r ys a zero w q = let e : y ≡ w = cc in (x, refl, subst (λ z. R x z) e r)
    each y r ys a (suc i) w q = a.each i w q

-- the state can be reached, and is the kept one once its dead registers are forgotten
record StandsFor (t : Litmus) (d : ℕ) (hidden : List (List Bool)) (x : Packed) (s : State) : Type 0 where
  reachable : IsReachable t d s
  kept_is : forgotten t hidden s ≡ state_of_packed x

-- as many states can be reached as are kept and linked
pub more-states : DeadRegistersChangeNothing
    → AlikeCoresAreExchangeable
    → (d : ℕ) (t : Litmus) (hidden : List (List Bool)) (xs : List Packed) (links : List Link) (limit : ℕ)
    → IsDistinct (packed_eq.eq-value).it xs
    → HaveCores t xs → AreLinked d t hidden xs links → limit < length xs → HasMoreStates t d limit
more-states law all_alike d t hidden xs links limit distinct cores h l =
    let all = collect (StandsFor t d hidden) xs (λ i x p.
    let w = linked-leads law all_alike d t hidden xs links h (suc i) i x (omega arith) p in
    (w.1.last, record { reachable = reachable d t w.1.last w.0 w.1.leads; kept_is = w.1.kept_is })) in
    record {
      states = all.0;
      reachable = λ i s p. (all.1.each i s p).2.reachable;
      distinct = λ i j s p q.
          let a = all.1.each i s p in
          let b = all.1.each j s q in
          states-apart t xs distinct cores i j a.0 b.0 a.1 b.1 (sym a.2.kept_is ∙ b.2.kept_is);
      more = let n = all.1.count in omega (arith, n, l);
    }
