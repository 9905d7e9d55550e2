-- Entries of one core, place and kind, and lists in which no two are.
use Rattle.order_breaches.proofs.Vocabulary.{◌≡◌, ◌<◌, ◌+◌, ℕ, suc, zero, List, [], ◌∷◌, Some, slice_get, Bool, true, false, ◌==◌, ◌&&◌}
use Rattle.order_breaches.proofs.Vocabulary.{◌||◌, if◌then◌else◌, arith, ap, sym, ◌∙◌, ◌⊎◌, inl, inr, subst, refl, cases_order, eq-eqb}
use Rattle.order_breaches.proofs.Vocabulary.{eqb-true, and_parts, entry, same_kind, is_read, is_write, rank, part_of, is_read_kind}
use Rattle.order_breaches.proofs.Vocabulary.{is_write_kind, is_at, read_value, Entry, Kind, F, same_action, same_but_value}
use Rattle.order_breaches.proofs.Firsts.{told-test}

same_kind-is : (a b : Kind) → same_kind a b ≡ true → a ≡ b
same_kind-is a b h = grind arith

same_kind-itself : (a : Kind) → same_kind a a ≡ true
same_kind-itself a = grind arith

pub kind-or-not : (a b : Kind) → (a ≡ b) ⊎ (a ≡ b → ⊥)
kind-or-not a b = elim (told-test (same_kind a b)) [
  | inl t ↦ inl (same_kind-is a b t)
  | inr n ↦ inr (λ e. n (subst (λ k. same_kind a k ≡ true) e (same_kind-itself a)))
]

pub record SameAction (x y : Entry) : Type 0 where
  pub core : x.core.0 ≡ y.core.0
  pub place : x.place ≡ y.place
  pub kind : x.kind ≡ y.kind

pub same-parts : (x y : Entry) → same_action x y ≡ true → SameAction x y
same-parts x y h =
    let p = and_parts ((y.core.0 == x.core.0) && (y.place == x.place)) (same_kind y.kind x.kind) h in
    let q = and_parts (y.core.0 == x.core.0) (y.place == x.place) p.0 in
    record { core = sym (eqb-true y.core.0 x.core.0 q.0); place = sym (eqb-true y.place x.place q.1); kind = sym (same_kind-is y.kind x.kind p.1) }

pub same-from : (x y : Entry) → SameAction x y → same_action x y ≡ true
same-from x y s =
    rw (eq-eqb y.core.0 x.core.0 (sym s.core), eq-eqb y.place x.place (sym s.place))
    (subst (λ k. same_kind y.kind k ≡ true) (sym s.kind) (same_kind-itself y.kind))

pub same-turned : (x y : Entry) → SameAction x y → SameAction y x
same-turned x y s = record { core = sym s.core; place = sym s.place; kind = sym s.kind }

pub same-rank : (x y : Entry) → SameAction x y → rank x ≡ rank y
same-rank x y s = ap (λ p. p + p + part_of x.kind) s.place ∙ ap (λ k. y.place + y.place + part_of k) s.kind

pub same-itself : (x : Entry) → same_action x x ≡ true
same-itself x = same-from x x (record { core = refl; place = refl; kind = refl })

pub entry-is : (x y : Entry) → SameAction x y → x.loc.0 ≡ y.loc.0 → x.value ≡ y.value → x ≡ y
entry-is x y s l v =
    ap (λ c. entry c x.place x.kind x.loc x.value) s.core ∙ ap (λ p. entry y.core.0 p x.kind x.loc x.value) s.place
    ∙ ap (λ k. entry y.core.0 y.place k x.loc x.value) s.kind ∙ ap (λ n. entry y.core.0 y.place y.kind (record { 0 = n }) x.value) l
    ∙ ap (λ n. entry y.core.0 y.place y.kind y.loc n) v

pub record SameButValue (e x : Entry) : Type 0 where
  pub action : SameAction e x
  pub loc : x.loc.0 ≡ e.loc.0
  pub fence : x.kind ≡ F → x.value ≡ e.value

neither : (k : Kind) (b : Bool) → k ≡ F → (is_read_kind k || is_write_kind k || b) ≡ true → b ≡ true
neither k b f h = let w : (is_read_kind F || is_write_kind F || b) ≡ true = subst (λ z. (is_read_kind z || is_write_kind z || b) ≡ true) f h in w

pub same_but_value-parts : (e x : Entry) → same_but_value e x ≡ true → SameButValue e x
same_but_value-parts e x h =
    let p = and_parts (same_action e x && (x.loc.0 == e.loc.0)) (is_read x || is_write x || (x.value == e.value)) h in
    let q = and_parts (same_action e x) (x.loc.0 == e.loc.0) p.0 in
    record {
      action = same-parts e x q.0;
      loc = eqb-true x.loc.0 e.loc.0 q.1;
      fence = λ f. eqb-true x.value e.value (neither x.kind (x.value == e.value) f p.1);
    }

or-true : (a : Bool) → (a || true) ≡ true
or-true a = grind arith

pub same_but_value-itself : (x : Entry) → same_but_value x x ≡ true
same_but_value-itself x = rw (same-itself x, eq-eqb x.loc.0 x.loc.0 refl, eq-eqb x.value x.value refl) (or-true (is_read x || is_write x))

-- no two entries of the list are of one core, place and kind
abbrev pub NoneTwice : List Entry → Type 0
NoneTwice list = (i j : ℕ) (x y : Entry) → j < i → slice_get list i ≡ Some x → slice_get list j ≡ Some y → SameAction x y → ⊥

after : (z : Entry) (zs : List Entry) → NoneTwice (z ∷ zs) → NoneTwice zs
after z zs n i j x y l e f s = n (suc i) (suc j) x y (omega arith) e f s

-- two entries of one core, place and kind are one
pub one-place : (list : List Entry) → NoneTwice list → (i j : ℕ) (x y : Entry) → slice_get list i ≡ Some x → slice_get list j ≡ Some y → SameAction x y → i ≡ j
one-place list n i j x y e f s = elim (cases_order i j) [
  | inl q ↦ q
  | inr w ↦ elim w [
    | inl l ↦ absurd (n j i y x l f e (same-turned x y s))
    | inr l ↦ absurd (n i j x y l e f s)
  ]
]

pub one-entry : (list : List Entry) → NoneTwice list → (i j : ℕ) (x y : Entry) → slice_get list i ≡ Some x → slice_get list j ≡ Some y → SameAction x y → x ≡ y
one-entry list n i j x y e f s =
    let q = one-place list n i j x y e f s in
    let g : slice_get list i ≡ Some y = subst (λ k. slice_get list k ≡ Some y) (sym q) f in cc

-- the value that is looked up is that of the one entry of this core, place and kind
value-step : (x : Entry) (y : Entry) (ys : List Entry) (b : Bool)
    → is_at x.core.0 x.place x.kind y ≡ b
    → (b ≡ true → y ≡ x)
    → (b ≡ false → read_value x.core.0 x.place x.kind ys ≡ x.value)
    → (if b then y.value else read_value x.core.0 x.place x.kind ys) ≡ x.value
value-step x y ys true e here later = ap (λ z. z.value) (here refl)
value-step x y ys false e here later = later refl

pub value-at : (list : List Entry) → NoneTwice list → (k : ℕ) (x : Entry) → slice_get list k ≡ Some x → read_value x.core.0 x.place x.kind list ≡ x.value
value-at [] n k x e = absurd (let z : ⊥ = cc in z)
value-at (y ∷ ys) n zero x e =
    let q : y ≡ x = cc in
    let t : is_at x.core.0 x.place x.kind y ≡ true = subst (λ z. is_at x.core.0 x.place x.kind z ≡ true) (sym q) (same-itself x) in
    rw t (ap (λ z. z.value) q)
value-at (y ∷ ys) n (suc k) x e =
    value-step x y ys (is_at x.core.0 x.place x.kind y) refl
    (λ t. absurd (n (suc k) zero x y (omega arith) e refl (same-parts x y t)))
    (λ _. value-at ys (after y ys n) k x e)

-- two entries of one core, place and kind are looked up alike
pub looked-up : (x y : Entry) (list : List Entry) → SameAction x y → read_value x.core.0 x.place x.kind list ≡ read_value y.core.0 y.place y.kind list
looked-up x y list s =
    ap (λ c. read_value c x.place x.kind list) s.core
    ∙ ap (λ p. read_value y.core.0 p x.kind list) s.place
    ∙ ap (λ k. read_value y.core.0 y.place k list) s.kind
