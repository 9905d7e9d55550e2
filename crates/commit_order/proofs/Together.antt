-- The loop that puts each load part directly before its store part.
use Rattle.commit_order.proofs.Vocabulary.{◌≡◌, ◌≢◌, ◌<◌, ◌+◌, ℕ, zero, suc, ◌==◌, ◌&&◌, Bool, true, false, if◌then◌else◌, List, [], ◌∷◌}
use Rattle.commit_order.proofs.Vocabulary.{◌++◌, length, take, drop, drop-cons, add-one, slice_index_or, None, Some, refl, sym, ap, ◌∙◌}
use Rattle.commit_order.proofs.Vocabulary.{arith, subst, nat_tests, same_kind, is_at, put_before, put_together, Entry, Kind, LR, LW}
use Rattle.commit_order.proofs.Vocabulary.{has_its_store_part, are_answered, all_put, first_of_core, others_of, IsNoneOf, AreWaiting}
use Rattle.commit_order.proofs.Vocabulary.{IsBuiltSoFar}
use Rattle.std.proofs.Common.{append_assoc, append-nil}

pub same-core : (m n : ℕ) → m ≡ n → (m == n) ≡ true
same-core m n h = grind (arith, nat_tests, h)

other-core : (m n : ℕ) → m ≢ n → (m == n) ≡ false
other-core m n h = grind (arith, nat_tests, h)

pub is_core : (m n : ℕ) → (m == n) ≡ true → m ≡ n
is_core m n h = grind (arith, nat_tests, h)

pub isn't_core : (m n : ℕ) → (m == n) ≡ false → m ≢ n
isn't_core m n h e = let z : true ≡ false = sym (same-core m n e) ∙ h in let w : ⊥ = cc in w

pub and_first : (a b : Bool) → (a && b) ≡ true → a ≡ true
and_first true b h = refl
and_first false b h = h

pub and_second : (a b : Bool) → (a && b) ≡ true → b ≡ true
and_second true b h = h
and_second false b h = absurd (let z : ⊥ = cc in z)

pub load_kind : (k : Kind) → same_kind k LR ≡ true → k ≡ LR
load_kind LR h = refl
load_kind k h = absurd (let z : ⊥ = cc in z)

-- an entry of another core is no store part of this one, and a load part is none
pub elsewhere : (x e : Entry) → e.core.0 ≢ x.core.0 → is_at x.core.0 x.place LW e ≡ false
elsewhere x e h = rw (other-core e.core.0 x.core.0 h) refl

and_false : (a : Bool) → (a && false) ≡ false
and_false true = refl
and_false false = refl

pub no_load_part : (x e : Entry) → e.kind ≡ LR → is_at x.core.0 x.place LW e ≡ false
no_load_part x e k = rw k (and_false ((e.core.0 == x.core.0) && (e.place == x.place)))

passes : (x e : Entry) (ys : List Entry) → is_at x.core.0 x.place LW e ≡ false → put_before x (e ∷ ys) ≡ e ∷ put_before x ys
passes x e ys h = rw h refl

stops : (x e : Entry) (ys : List Entry) → is_at x.core.0 x.place LW e ≡ true → put_before x (e ∷ ys) ≡ x ∷ (e ∷ ys)
stops x e ys h = rw h refl

-- what answers a load part after an entry of another core answers it before that too; one of its own core is its store part
pub skipped : (x e : Entry) (es : List Entry) → e.core.0 ≢ x.core.0 → has_its_store_part x (e ∷ es) ≡ has_its_store_part x es
skipped x e es h = rw (other-core e.core.0 x.core.0 h) refl

pub answers : (x e : Entry) (es : List Entry) → e.core.0 ≡ x.core.0 → has_its_store_part x (e ∷ es) ≡ true → is_at x.core.0 x.place LW e ≡ true
answers x e es h a = (let z : has_its_store_part x (e ∷ es) ≡ is_at x.core.0 x.place LW e = rw (same-core e.core.0 x.core.0 h) refl in sym z ∙ a)

-- an entry of a core of which none waits
none-put : (e : Entry) (xs ys : List Entry) → IsNoneOf e.core.0 xs → all_put xs (e ∷ ys) ≡ e ∷ all_put xs ys
none-put e [] ys h = refl
none-put e (x ∷ xs) ys h = ap (put_before x) (none-put e xs ys h.1) ∙ passes x e (all_put xs ys) (elsewhere x e (λ s. h.0 (sym s)))

none-found : (core : ℕ) (xs : List Entry) → first_of_core core xs ≡ None → IsNoneOf core xs
none-found core [] h = tt
none-found core (x ∷ xs) h = by_core (x.core.0 == core) refl (none-found core xs)
  where
    by_core : (b : Bool) → (x.core.0 == core) ≡ b → (first_of_core core xs ≡ None → IsNoneOf core xs) → IsNoneOf core (x ∷ xs)
    by_core true q rest = let z : first_of_core core (x ∷ xs) ≡ Some x = rw q refl in absurd (let e : Some x ≡ None = sym z ∙ h in let w : ⊥ = cc in w)
    by_core false q rest = let z : first_of_core core (x ∷ xs) ≡ first_of_core core xs = rw q refl in (isn't_core x.core.0 core q, rest (sym z ∙ h))

all-others : (core : ℕ) (xs : List Entry) → first_of_core core xs ≡ None → others_of core xs ≡ xs
all-others core [] h = refl
all-others core (x ∷ xs) h =
    elim (x.core.0 == core) as (λ b. (if b then Some x else first_of_core core xs) ≡ None → (if b then xs else x ∷ others_of core xs) ≡ x ∷ xs)
    [ true ↦ (λ g. absurd (let z : ⊥ = cc in z)) | false ↦ (λ g. ap (λ ys. x ∷ ys) (all-others core xs g)) ] h

pub plain-put : (e : Entry) (xs ys : List Entry) → first_of_core e.core.0 xs ≡ None → all_put xs (e ∷ ys) ≡ e ∷ all_put xs ys
plain-put e xs ys h = none-put e xs ys (none-found e.core.0 xs h)

-- what waits is a load part
first-kind : (core : ℕ) (zs es : List Entry) (z : Entry) → AreWaiting zs es → first_of_core core zs ≡ Some z → z.kind ≡ LR
first-kind core [] es z w h = absurd (let z : ⊥ = cc in z)
first-kind core (v ∷ vs) es z w h =
    elim (v.core.0 == core) as (λ b. (if b then Some v else first_of_core core vs) ≡ Some z → z.kind ≡ LR)
    [ true ↦ (λ g. (let s : v ≡ z = cc in ap (λ (u : Entry). u.kind) (sym s) ∙ w.0)) | false ↦ (λ g. first-kind core vs es z w.3 g) ] h

-- the store part of one that waits
pub store-put : (e x : Entry) (xs es ys : List Entry)
    → AreWaiting xs (e ∷ es)
    → first_of_core e.core.0 xs ≡ Some x
    → all_put xs (e ∷ ys) ≡ x ∷ (e ∷ all_put (others_of e.core.0 xs) ys)
store-put e x [] es ys w h = absurd (let z : ⊥ = cc in z)
store-put e x (y ∷ xs) es ys w h = by_core (y.core.0 == e.core.0) refl (store-put e x xs es ys w.3)
  where
    Goal : Type 0
    Goal = all_put (y ∷ xs) (e ∷ ys) ≡ x ∷ (e ∷ all_put (others_of e.core.0 (y ∷ xs)) ys)

    by_core : (b : Bool)
        → (y.core.0 == e.core.0) ≡ b
        → (first_of_core e.core.0 xs ≡ Some x → all_put xs (e ∷ ys) ≡ x ∷ (e ∷ all_put (others_of e.core.0 xs) ys))
        → Goal
    by_core true q go =
        let found : first_of_core e.core.0 (y ∷ xs) ≡ Some y = rw q refl in
        let same : y ≡ x = (let z : Some y ≡ Some x = sym found ∙ h in let s : y ≡ x = cc in s) in
        let cores : y.core.0 ≡ e.core.0 = is_core y.core.0 e.core.0 q in
        let others : others_of e.core.0 (y ∷ xs) ≡ xs = rw q refl in
        let part = answers y e es (sym cores) w.1 in
        let rest = none-put e xs ys (subst (λ c. IsNoneOf c xs) cores w.2) in
        ap (put_before y) rest ∙ stops y e (all_put xs ys) part ∙ ap (λ z. z ∷ (e ∷ all_put xs ys)) same ∙ ap (λ zs. x ∷ (e ∷ all_put zs ys)) (sym others)
    by_core false q go =
        let found : first_of_core e.core.0 (y ∷ xs) ≡ first_of_core e.core.0 xs = rw q refl in
        let others : others_of e.core.0 (y ∷ xs) ≡ y ∷ others_of e.core.0 xs = rw q refl in
        let got = sym found ∙ h in
        let cores = isn't_core y.core.0 e.core.0 q in
        let rest = go got in
        let load = first-kind e.core.0 xs (e ∷ es) x w.3 got in
        ap (put_before y) rest ∙ passes y x (e ∷ all_put (others_of e.core.0 xs) ys) (no_load_part y x load)
        ∙ ap (λ zs. x ∷ zs) (passes y e (all_put (others_of e.core.0 xs) ys) (elsewhere y e (λ s. cores (sym s))))
        ∙ ap (λ zs. x ∷ (e ∷ all_put zs ys)) (sym others)

-- one more load part that waits
pub load-put : (e : Entry) (xs ys : List Entry) → all_put (xs ++ e ∷ []) ys ≡ all_put xs (put_before e ys)
load-put e [] ys = refl
load-put e (x ∷ xs) ys = ap (put_before x) (load-put e xs ys)

-- those that wait go on to
none-more : (core : ℕ) (xs : List Entry) (e : Entry) → IsNoneOf core xs → e.core.0 ≢ core → IsNoneOf core (xs ++ e ∷ [])
none-more core [] e h q = (q, tt)
none-more core (x ∷ xs) e h q = (h.0, none-more core xs e h.1 q)

pub waiting-plain : (e : Entry) (xs es : List Entry) → AreWaiting xs (e ∷ es) → first_of_core e.core.0 xs ≡ None → AreWaiting xs es
waiting-plain e xs es w h = go xs w (none-found e.core.0 xs h)
  where
    go : (zs : List Entry) → AreWaiting zs (e ∷ es) → IsNoneOf e.core.0 zs → AreWaiting zs es
    go [] w n = tt
    go (x ∷ zs) w n = (w.0, sym (skipped x e es (λ s. n.0 (sym s))) ∙ w.1, w.2, go zs w.3 n.1)

none-left : (core other : ℕ) (xs : List Entry) → IsNoneOf core xs → IsNoneOf core (others_of other xs)
none-left core other [] n = tt
none-left core other (x ∷ xs) n =
    elim (x.core.0 == other) as (λ b. IsNoneOf core (if b then xs else x ∷ others_of other xs)) [
      | true ↦ n.1
      | false ↦ (n.0, none-left core other xs n.1)
    ]

pub waiting-store : (e x : Entry) (xs es : List Entry) → AreWaiting xs (e ∷ es) → first_of_core e.core.0 xs ≡ Some x → AreWaiting (others_of e.core.0 xs) es
waiting-store e x [] es w h = tt
waiting-store e x (y ∷ xs) es w h = by_core (y.core.0 == e.core.0) refl (waiting-store e x xs es w.3)
  where
    go : (zs : List Entry) → AreWaiting zs (e ∷ es) → IsNoneOf e.core.0 zs → AreWaiting zs es
    go [] w n = tt
    go (v ∷ zs) w n = (w.0, sym (skipped v e es (λ s. n.0 (sym s))) ∙ w.1, w.2, go zs w.3 n.1)

    by_core : (b : Bool)
        → (y.core.0 == e.core.0) ≡ b
        → (first_of_core e.core.0 xs ≡ Some x → AreWaiting (others_of e.core.0 xs) es)
        → AreWaiting (others_of e.core.0 (y ∷ xs)) es
    by_core true q rest =
        let others : others_of e.core.0 (y ∷ xs) ≡ xs = rw q refl in
        subst (λ zs. AreWaiting zs es) (sym others) (go xs w.3 (subst (λ c. IsNoneOf c xs) (is_core y.core.0 e.core.0 q) w.2))
    by_core false q rest =
        let others : others_of e.core.0 (y ∷ xs) ≡ y ∷ others_of e.core.0 xs = rw q refl in
        let found : first_of_core e.core.0 (y ∷ xs) ≡ first_of_core e.core.0 xs = rw q refl in
        let cores = isn't_core y.core.0 e.core.0 q in
        subst (λ zs. AreWaiting zs es) (sym others)
        (w.0, sym (skipped y e es (λ s. cores (sym s))) ∙ w.1, none-left y.core.0 e.core.0 xs w.2, rest (sym found ∙ h))

pub waiting-load : (e : Entry) (xs es : List Entry) → e.kind ≡ LR → has_its_store_part e es ≡ true → AreWaiting xs (e ∷ es) → AreWaiting (xs ++ e ∷ []) es
waiting-load e [] es k a w = (k, a, tt, tt)
waiting-load e (x ∷ xs) es k a w = by_core (e.core.0 == x.core.0) refl (waiting-load e xs es k a w.3)
  where
    by_core : (b : Bool) → (e.core.0 == x.core.0) ≡ b → AreWaiting (xs ++ e ∷ []) es → AreWaiting ((x ∷ xs) ++ e ∷ []) es
    by_core true q rest =
        let part = answers x e es (is_core e.core.0 x.core.0 q) w.1 in
        absurd (let z : true ≡ false = sym part ∙ no_load_part x e k in let c : ⊥ = cc in c)
    by_core false q rest =
        let cores = isn't_core e.core.0 x.core.0 q in
        (w.0, sym (skipped x e es cores) ∙ w.1, none-more x.core.0 xs e w.2 cores, rest)

pub none-wait : (xs : List Entry) → AreWaiting xs [] → xs ≡ []
none-wait [] w = refl
none-wait (x ∷ xs) w = absurd (let z : false ≡ true = w.1 in let c : ⊥ = cc in c)

-- the entries one by one
pub drop-got : (xs : List Entry) (i : ℕ) (x : Entry) → i < length xs → x ≡ slice_index_or xs i x → drop i xs ≡ x ∷ drop (i + 1) xs
drop-got xs i x h q = rw add-one (drop-cons xs i x h ∙ ap (λ y. y ∷ drop (suc i) xs) (sym q))

pub first-found : (core : ℕ) (xs : List Entry) (i : ℕ) (x : Entry)
    → i < length xs
    → x ≡ slice_index_or xs i x
    → (x.core.0 == core) ≡ true
    → first_of_core core (drop i xs) ≡ Some x
first-found core xs i x h q e = ap (first_of_core core) (drop-got xs i x h q) ∙ rw e refl

pub others-found : (core : ℕ) (xs : List Entry) (i : ℕ) (x : Entry)
    → i < length xs
    → x ≡ slice_index_or xs i x
    → (x.core.0 == core) ≡ true
    → others_of core (drop i xs) ≡ drop (i + 1) xs
others-found core xs i x h q e = ap (others_of core) (drop-got xs i x h q) ∙ rw e refl

drop-all : (xs : List Entry) → drop (length xs) xs ≡ []
drop-all [] = refl
drop-all (x ∷ xs) = drop-all xs

take-all : (xs : List Entry) → take (length xs) xs ≡ xs
take-all [] = refl
take-all (x ∷ xs) = ap (λ ys. x ∷ ys) (take-all xs)

pub first-of-rest : (core : ℕ) (xs : List Entry) (i : ℕ) → i ≡ length xs → first_of_core core (drop i xs) ≡ None
first-of-rest core xs i h = rw h (ap (first_of_core core) (drop-all xs))

pub others-of-rest : (core : ℕ) (xs : List Entry) (i : ℕ) → i ≡ length xs → take i xs ++ others_of core (drop i xs) ≡ xs
others-of-rest core xs i h = rw h (ap (λ ys. take (length xs) xs ++ others_of core ys) (drop-all xs) ∙ append-nil (take (length xs) xs) ∙ take-all xs)

pub same-got : (xs : List Entry) (i : ℕ) (x y : Entry) → i < length xs → slice_index_or xs i x ≡ slice_index_or xs i y
same-got [] i x y h = absurd (omega arith)
same-got (z ∷ zs) zero x y h = refl
same-got (z ∷ zs) (suc i) x y h = same-got zs i x y (omega arith)

-- one entry more
pub load-step : (e : Entry) (order order' waiting waiting' left whole : List Entry) → same_kind e.kind LR ≡ true → order' ≡ order → waiting' ≡ waiting ++ e ∷ []
    → IsBuiltSoFar order waiting (e ∷ left) whole → IsBuiltSoFar order' waiting' left whole
load-step e order order' waiting waiting' left whole k o w built =
    let together : put_together (e ∷ left) ≡ put_before e (put_together left) = rw k refl in
    let answered : (has_its_store_part e left && are_answered left) ≡ true =
    (let z : are_answered (e ∷ left) ≡ (has_its_store_part e left && are_answered left) =
    rw k refl in sym z ∙ built.answered) in
    record {
      put = rw (o, w) (ap (λ es. order ++ es) (load-put e waiting (put_together left) ∙ ap (all_put waiting) (sym together)) ∙ built.put);
      waits =
          subst (λ ws. AreWaiting ws left) (sym w)
          (waiting-load e waiting left (load_kind e.kind k) (and_first (has_its_store_part e left) (are_answered left) answered) built.waits);
      answered = and_second (has_its_store_part e left) (are_answered left) answered;
    }

not-load : (e : Entry) (left : List Entry) → same_kind e.kind LR ≡ false → are_answered (e ∷ left) ≡ true → are_answered left ≡ true
not-load e left k a = (let z : are_answered (e ∷ left) ≡ are_answered left = rw k refl in sym z ∙ a)

pub plain-step : (e : Entry) (order between order' waiting waiting' left whole : List Entry)
    → same_kind e.kind LR ≡ false
    → first_of_core e.core.0 waiting ≡ None
    → between ≡ order
    → order' ≡ between ++ e ∷ []
    → waiting' ≡ others_of e.core.0 waiting
    → IsBuiltSoFar order waiting (e ∷ left) whole
    → IsBuiltSoFar order' waiting' left whole
plain-step e order between order' waiting waiting' left whole k f b o w built =
    let together : put_together (e ∷ left) ≡ e ∷ put_together left = rw k refl in
    let same : others_of e.core.0 waiting ≡ waiting = all-others e.core.0 waiting f in
    record {
      put = rw (o, b, w, same)
          (append_assoc order (e ∷ []) (all_put waiting (put_together left))
          ∙ ap (λ es. order ++ es) (sym (plain-put e waiting (put_together left) f) ∙ ap (all_put waiting) (sym together))
          ∙ built.put);
      waits = subst (λ ws. AreWaiting ws left) (sym (w ∙ same)) (waiting-plain e waiting left built.waits f);
      answered = not-load e left k built.answered;
    }

pub store-step : (e x : Entry) (order between order' waiting waiting' left whole : List Entry)
    → same_kind e.kind LR ≡ false
    → first_of_core e.core.0 waiting ≡ Some x
    → between ≡ order ++ x ∷ []
    → order' ≡ between ++ e ∷ []
    → waiting' ≡ others_of e.core.0 waiting
    → IsBuiltSoFar order waiting (e ∷ left) whole
    → IsBuiltSoFar order' waiting' left whole
store-step e x order between order' waiting waiting' left whole k f b o w built =
    let together : put_together (e ∷ left) ≡ e ∷ put_together left = rw k refl in
    let others = others_of e.core.0 waiting in
    record {
      put = rw (o, b, w)
          (append_assoc (order ++ x ∷ []) (e ∷ []) (all_put others (put_together left)) ∙ append_assoc order (x ∷ []) (e ∷ all_put others (put_together left))
          ∙ ap (λ es. order ++ es) (sym (store-put e x waiting left (put_together left) built.waits f) ∙ ap (all_put waiting) (sym together)) ∙ built.put);
      waits = subst (λ ws. AreWaiting ws left) (sym w) (waiting-store e x waiting left built.waits f);
      answered = not-load e left k built.answered;
    }

pub built-first : (whole : List Entry) → are_answered whole ≡ true → IsBuiltSoFar [] [] whole whole
built-first whole h = record { put = refl; waits = tt; answered = h }

pub built-last : (order waiting left whole : List Entry) → left ≡ [] → IsBuiltSoFar order waiting left whole → order ≡ put_together whole
built-last order waiting left whole h built =
    let none : waiting ≡ [] = none-wait waiting (subst (AreWaiting waiting) h built.waits) in
    sym (append-nil order) ∙ ap (λ es. order ++ es) (sym (ap (λ ws. all_put ws (put_together left)) none ∙ ap put_together h)) ∙ built.put

pub drop-end : (xs : List Entry) (i : ℕ) → i ≡ length xs → drop i xs ≡ []
drop-end xs i h = rw h (drop-all xs)

pub drop-next : (xs : List Entry) (i : ℕ) (d : Entry) → i < length xs → drop i xs ≡ slice_index_or xs i d ∷ drop (i + 1) xs
drop-next xs i d h = drop-got xs i (slice_index_or xs i d) h (same-got xs i d (slice_index_or xs i d) h)
